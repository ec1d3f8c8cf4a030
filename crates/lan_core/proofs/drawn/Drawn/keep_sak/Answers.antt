use Rattle.std.proofs.Common.{length, refl, sym, subst}
use Rattle.aes_block.specs.declared.secret.Secret.{Secret}
use Rattle.lan_core.specs.Standing.{Numbers}
use Rattle.lan_core.specs.inside.Drawing.{SakIsKept}
use Rattle.lan_core.proofs.DrawsLookedUp.{narrow_kept, wide_kept}
use Rattle.lan_core.proofs.drawn.Drawn.keep_sak.Goals as goal

pub returns-in_ok-insert-in-S128 : goal.returns-in_ok-insert-in-S128
returns-in_ok-insert-in-S128 c =
    let d = c.self.inside in
    let old : Numbers = record { count = length d.draws.items; mis = d.mis.entries; narrow = d.narrow.entries; wide = d.wide.entries } in
    let new : Numbers = record old { narrow = c.insert.new.self.entries } in
    subst (λ (before : Numbers). SakIsKept c.args.number before new c.args.sak.now) c.self.view_is
    (subst (λ (sak : Secret). SakIsKept c.args.number old new sak) (sym c.in-S128.is)
    (narrow_kept c.args.number c.in-S128.octets old new (λ q. c.in_ok-insert-in-S128.ensures.updates.0 q) refl refl refl))

pub returns-in_ok-insert-in-S256 : goal.returns-in_ok-insert-in-S256
returns-in_ok-insert-in-S256 c =
    let d = c.self.inside in
    let old : Numbers = record { count = length d.draws.items; mis = d.mis.entries; narrow = d.narrow.entries; wide = d.wide.entries } in
    let new : Numbers = record old { wide = c.insert-in-S256.new.self.entries } in
    subst (λ (before : Numbers). SakIsKept c.args.number before new c.args.sak.now) c.self.view_is
    (subst (λ (sak : Secret). SakIsKept c.args.number old new sak) (sym c.in-S256.is)
    (wide_kept c.args.number c.in-S256.octets old new (λ q. c.in_ok-insert-in-S256.ensures.updates.0 q) refl refl refl))
