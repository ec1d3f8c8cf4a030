use Rattle.std.proofs.Common.{sym, ◌∙◌}
use Rattle.rx_slots.proofs.Steps.{answer_told, stands_admitted}
use Rattle.rx_slots.proofs.slots.RxSlots.admit.Goals as goal

pub returns-in-Sealed-clause-stands : goal.returns-in-Sealed-clause-stands
returns-in-Sealed-clause-stands c = λ own window h frame s is.
    stands_admitted own window h c.args.self.now c.admit_number.new.self frame c.in-Sealed.sci c.in-Sealed.an c.in-Sealed.pn c.in-Sealed.body c.admit_number.result
    s (sym c.in-Sealed.is ∙ is) c.admit_number.ensures.answer c.admit_number.ensures.after

pub returns-in-Sealed-clause-answer : goal.returns-in-Sealed-clause-answer
returns-in-Sealed-clause-answer c = λ own window h frame s is.
    answer_told own window h c.args.self.now frame c.in-Sealed.sci c.in-Sealed.an c.in-Sealed.pn c.in-Sealed.body c.admit_number.result
    s (sym c.in-Sealed.is ∙ is) c.admit_number.ensures.answer
