use Rattle.std.proofs.Common.{◌≡◌, cond, Some, refl, sym, subst}
use Rattle.aes_block.specs.declared.secret.Secret.{Secret}
use Rattle.aes_block.specs.Secrets.{same_secret}
use Rattle.known_keys.specs.Maps.{Numbers, number_by}
use Rattle.known_keys.proofs.SakNumbers.{narrow_put, wide_put}
use Rattle.known_keys.proofs.sak_numbers.SakNumbers.put.Goals as goal

pub returns-in_ok-insert-in-S128-clause-put : goal.returns-in_ok-insert-in-S128-clause-put
returns-in_ok-insert-in-S128-clause-put c =
    let d = c.self.inside in
    let old : Numbers = record { narrow = d.narrow.entries; wide = d.wide.entries } in
    let new : Numbers = record old { narrow = c.insert.new.self.entries } in
    subst (λ (before : Numbers). (s : Secret) → number_by new s
    ≡ cond (same_secret c.args.sak.now s) (Some c.args.number) (number_by before s)) c.self.view_is
    (subst (λ (sak : Secret). (s : Secret) → number_by new s
    ≡ cond (same_secret sak s) (Some c.args.number) (number_by old s)) (sym c.in-S128.is)
    (narrow_put c.args.number c.in-S128.octets old new (λ q. c.in_ok-insert-in-S128.ensures.updates.0 q) refl))

pub returns-in_ok-insert-in-S256-clause-put : goal.returns-in_ok-insert-in-S256-clause-put
returns-in_ok-insert-in-S256-clause-put c =
    let d = c.self.inside in
    let old : Numbers = record { narrow = d.narrow.entries; wide = d.wide.entries } in
    let new : Numbers = record old { wide = c.insert-in-S256.new.self.entries } in
    subst (λ (before : Numbers). (s : Secret) → number_by new s
    ≡ cond (same_secret c.args.sak.now s) (Some c.args.number) (number_by before s)) c.self.view_is
    (subst (λ (sak : Secret). (s : Secret) → number_by new s
    ≡ cond (same_secret sak s) (Some c.args.number) (number_by old s)) (sym c.in-S256.is)
    (wide_put c.args.number c.in-S256.octets old new (λ q. c.in_ok-insert-in-S256.ensures.updates.0 q) refl))
