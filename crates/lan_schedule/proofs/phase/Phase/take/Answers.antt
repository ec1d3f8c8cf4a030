use Rattle.lan_schedule.proofs.Phasing.{enters-ok, takes-handed}
use Rattle.lan_schedule.proofs.phase.Phase.take.Goals as goal

pub returns : goal.returns
returns c = λ w reached is taken goes.
    enters-ok c.args.line w c.args.self.now c.in_ok-self.field-0 is c.requires taken goes
    (rw c.replace-before.ensures.value at (c.in_ok-self.ensures w reached
    (rw c.replace-before.ensures.value goes) (rw c.replace-before.ensures.value taken)))

pub returns-in_err-self : goal.returns-in_err-self
returns-in_err-self c = λ w reached is taken goes.
    takes-handed c.args.line w c.args.self.now _ _ _ is
    (rw c.replace-before.ensures.value at (c.in_err-self.ensures w reached
    (rw c.replace-before.ensures.value goes) (rw c.replace-before.ensures.value taken)))
    c.from_residual.ensures.1
