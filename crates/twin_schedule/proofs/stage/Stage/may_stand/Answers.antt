use Rattle.twin_schedule.proofs.Refusing.{adopt-stands, plain-stands, second-stands}
use Rattle.twin_schedule.proofs.stage.Stage.may_stand.Goals as goal

pub returns-in-Plain-clause-stands : goal.returns-in-Plain-clause-stands
returns-in-Plain-clause-stands c = λ w stands.
    rw c.in-Plain.is (plain-stands c.in-Plain.line w c.args.self.now c.is_elsewhere.result
    c.is_elsewhere.ensures stands)

pub returns-in-Group2-clause-stands : goal.returns-in-Group2-clause-stands
returns-in-Group2-clause-stands c = λ w stands.
    rw c.in-Group2.is (second-stands c.in-Group2.ckn w c.args.self.now c.may_be_second.result
    c.may_be_second.ensures stands)

pub returns-in-Adopt-clause-stands : goal.returns-in-Adopt-clause-stands
returns-in-Adopt-clause-stands c = λ w stands.
    rw c.in-Adopt.is (adopt-stands w c.args.self.now c.is_some.result c.is_some.ensures stands)
