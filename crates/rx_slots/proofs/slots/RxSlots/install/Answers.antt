use Rattle.std.proofs.Common.{[], ◌∙◌}
use Rattle.rx_slots.proofs.Steps.{stands_installed}
use Rattle.rx_slots.proofs.slots.RxSlots.install.Goals as goal

pub returns : goal.returns
returns c = λ own window h s.
    stands_installed own window h c.args.self.now c.set.new.self c.args.an c.args.sak.now c.new-slot.result s
    (c.new-slot.ensures ∙ (λ i. record { key = (c.of-2.ensures ∙ c.of.ensures) i; numbers = []; greatest = 1 }))
    (record { owner = c.set.ensures.owner; width = c.set.ensures.width; slots = c.set.ensures.slots })
