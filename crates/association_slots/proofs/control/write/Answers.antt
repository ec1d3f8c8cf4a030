use Rattle.std.proofs.Common.{arith, ap, ◌∙◌, sym}
use Rattle.atomic_table.specs.Seated.{TableId}
use Rattle.association_slots.proofs.CardsKeep.{writes_at}
use Rattle.association_slots.proofs.control.write.Goals as goal

pub store-requires : goal.store-requires
store-requires c = let here = c.requires.here ∙ sym c.shared.ensures in
    (here, omega (arith, c.requires.room, ap (λ (t : TableId). t.words) c.shared.ensures), writes_at _ _ _ _ _ c.requires.room.0 (ap (λ m. m.0) c.requires.control) (omega (arith, c.requires.room)))
