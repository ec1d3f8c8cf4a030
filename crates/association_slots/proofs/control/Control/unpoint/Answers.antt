use Rattle.std.proofs.Common.{arith, ap, ◌∙◌, sym}
use Rattle.atomic_table.specs.Seated.{TableId}
use Rattle.association_slots.specs.Views.{ControlAt}
use Rattle.association_slots.specs.Words.{absent_word}
use Rattle.association_slots.proofs.ControlKeeps.{unpoints}
use Rattle.association_slots.proofs.control.Control.unpoint.Goals as goal

pub store-requires : goal.store-requires
store-requires c = let here = ap (λ (v : ControlAt). v.table) c.self.view_is ∙ (c.requires.here ∙ sym c.shared.ensures) in
    (here, omega (arith, c.self.invariant.limit_is.2, ap (λ (t : TableId). t.words) here), unpoints _ _ _ _ (ap (λ m. m.0) c.self.invariant.is) (c.absent_word-word.ensures ∙ ap absent_word c.self.invariant.last_is.0))
