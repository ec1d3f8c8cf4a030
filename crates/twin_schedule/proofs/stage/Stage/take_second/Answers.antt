use Rattle.std.proofs.Common.{◌≡◌, Some, refl}
use Rattle.cak_roll.specs.Answers.{second_fault}
use Rattle.twin_schedule.proofs.Opening.{joins-stage}
use Rattle.twin_schedule.proofs.stage.Stage.take_second.Goals as goal

pub returns-in-Err-clause-memory : goal.returns-in-Err-clause-memory
returns-in-Err-clause-memory c = λ w stands is may.
    let none = joins-stage w c.args.self.now c.args.ckn.now stands is may in
    let some : second_fault c.args.self.now.twin c.args.ckn.now ≡ Some c.in-Err.field-0 =
    rw c.in_ok-copied.ensures at ((c.in-Err.ensures.refused c.in-Err.field-0).0 refl) in
    absurd (cc (none, some))
