use Rattle.rx_slots.proofs.Steps.{stands_removed}
use Rattle.rx_slots.proofs.slots.RxSlots.remove.Goals as goal

pub returns : goal.returns
returns c = λ own window h s.
    stands_removed own window h c.args.self.now c.set.new.self c.args.an s
    (record { owner = c.set.ensures.owner; width = c.set.ensures.width; slots = c.set.ensures.slots })
