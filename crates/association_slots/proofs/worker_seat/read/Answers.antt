use Rattle.std.proofs.Common.{arith, ap, ◌∙◌, sym}
use Rattle.atomic_table.specs.Seated.{TableId}
use Rattle.association_slots.proofs.CardsKeep.{reads}
use Rattle.association_slots.proofs.worker_seat.read.Goals as goal

pub load-requires : goal.load-requires
load-requires c = let here = c.requires.here.0 ∙ sym c.shared.ensures in let was = c.requires.loaded in
    (here, omega (arith, c.requires.here.1, ap (λ (t : TableId). t.words) c.shared.ensures), reads _ _ _ was.0 was.1 c.args.word was.2 was.3 (ap (λ m. m.0) c.requires.seat) was.4)
