use Rattle.std.proofs.Common.{refl}
use Rattle.cak_roll.specs.declared.event.TwinEvent.TheVariants as twins
use Rattle.twin_schedule.specs.Acts.{happen}
use Rattle.twin_schedule.specs.Lines.{deed}
use Rattle.twin_schedule.proofs.Moving.{one-place}
use Rattle.twin_schedule.proofs.Opening.{joined-did}
use Rattle.twin_schedule.proofs.stage.Stage.perform.Goals as goal

pub returns-in-Plain : goal.returns-in-Plain
returns-in-Plain g c = λ allowed. rw c.in-Plain.is c.perform_plain.ensures

pub returns-in-Group2 : goal.returns-in-Group2
returns-in-Group2 g c = λ allowed.
    let form = rw c.in-Group2.is at c.requires.form in
    joined-did c.args.line.now c.in-Group2.cak c.in-Group2.ckn _ _ c.take_second.result c.in-Group2.is
    (form.1.0, form.1.1) allowed c.take_second.ensures.stands c.take_second.ensures.memory refl

pub returns-in-Adopt : goal.returns-in-Adopt
returns-in-Adopt g c = λ allowed.
    one-place (λ w. deed c.args.line.now w) c.in-Adopt.name (λ s. happen (twins.Adopt s))
    c.place.result _ _ _ (λ w. rw c.in-Adopt.is refl) c.place.ensures c.adopt.ensures

pub returns-in-Leave : goal.returns-in-Leave
returns-in-Leave g c = λ allowed.
    one-place (λ w. deed c.args.line.now w) c.in-Leave.name
    (λ s. happen (twins.Leave s c.group_of.result))
    c.place-in-Leave.result _ _ _ (λ w. rw (c.in-Leave.is, c.group_of.ensures) refl)
    c.place-in-Leave.ensures c.leave.ensures
