use Rattle.std.proofs.Common.{◌≡◌, ◌∙◌, ◌+◌, length, refl, sym, ap, subst}
use Rattle.lan_core.specs.Standing.{Numbers}
use Rattle.lan_core.specs.Noting.{MiIsNoted}
use Rattle.lan_core.proofs.DrawsLookedUp.{mi_kept}
use Rattle.lan_core.proofs.drawn.Drawn.note_mi.Goals as goal

pub returns : goal.returns
returns c =
    let d = c.self.inside in
    let number = c.next_number-number.result in
    let old : Numbers = record { count = length d.draws.items; mis = d.mis.entries; narrow = d.narrow.entries; wide = d.wide.entries } in
    let new : Numbers = record old { count = length c.count_on.new.draws.items; mis = c.insert.new.self.entries } in
    let next : number ≡ old.count + 1 = c.next_number-number.ensures ∙ ap (λ (n : Numbers). n.count + 1) (sym c.self.view_is) in
    let counted : new.count ≡ number = c.in_ok-count_on.ensures ∙ sym next in
    subst (λ (before : Numbers). MiIsNoted before new c.args.mi) c.self.view_is
    (mi_kept number c.args.mi old new next (λ m. c.in_ok-insert.ensures.updates.0 m) counted refl refl)
