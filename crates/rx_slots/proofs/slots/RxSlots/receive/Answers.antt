use Rattle.rx_slots.proofs.slots.RxSlots.receive.Goals as goal

pub returns-clause-stands : goal.returns-clause-stands
returns-clause-stands c = λ own window h s.
    c.admit.ensures.stands own window h c.args.frame.now s (c.in_ok-checked.ensures.answer own window h s)

pub returns-clause-answer : goal.returns-clause-answer
returns-clause-answer c = λ own window h s.
    c.admit.ensures.answer own window h c.args.frame.now s (c.in_ok-checked.ensures.answer own window h s)
