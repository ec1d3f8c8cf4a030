use Rattle.std.proofs.Common.{◌≡◌, ◌∙◌, None, sym, ap, subst}
use Rattle.aes_block.specs.declared.secret.Secret.{Secret}
use Rattle.transcript_check.specs.Standing.{Saks, sak_under}
use Rattle.transcript_check.specs.inside.Steps.{SakIsPut}
use Rattle.transcript_check.proofs.Puts.{narrow_sak_put, wide_sak_put}
use Rattle.transcript_check.proofs.epochs.Epochs.put.Goals as goal

pub returns-in_ok-insert-in-S128-clause-put : goal.returns-in_ok-insert-in-S128-clause-put
returns-in_ok-insert-in-S128-clause-put c = λ none.
    let old : Saks = record { narrow = c.self.inside.narrow.entries; wide = c.self.inside.wide.entries } in
    let new : Saks = record old { narrow = c.insert.new.self.entries } in
    subst (λ (before : Saks). SakIsPut c.args.station c.args.epoch c.args.sak before new) c.self.view_is
    (subst (λ (sak : Secret). SakIsPut c.args.station c.args.epoch sak old new) (sym c.in-S128.is)
    (narrow_sak_put c.args.station c.args.epoch c.in-S128.octets old c.insert.new.self.entries
    (λ q. c.in_ok-insert-in-S128.ensures.updates.0 q) c.in_ok-insert-in-S128.ensures.updates.1 c.in_ok-insert-in-S128.ensures.entries))

pub returns-in_ok-insert-in-S256-clause-put : goal.returns-in_ok-insert-in-S256-clause-put
returns-in_ok-insert-in-S256-clause-put c = λ none.
    let old : Saks = record { narrow = c.self.inside.narrow.entries; wide = c.self.inside.wide.entries } in
    let new : Saks = record old { wide = c.insert-in-S256.new.self.entries } in
    let free : sak_under old c.args.station c.args.epoch ≡ None =
    ap (λ (saks : Saks). sak_under saks c.args.station c.args.epoch) c.self.view_is ∙ none in
    subst (λ (before : Saks). SakIsPut c.args.station c.args.epoch c.args.sak before new) c.self.view_is
    (subst (λ (sak : Secret). SakIsPut c.args.station c.args.epoch sak old new) (sym c.in-S256.is)
    (wide_sak_put c.args.station c.args.epoch c.in-S256.octets old c.insert-in-S256.new.self.entries free
    (λ q. c.in_ok-insert-in-S256.ensures.updates.0 q) c.in_ok-insert-in-S256.ensures.updates.1
    c.in_ok-insert-in-S256.ensures.entries))
