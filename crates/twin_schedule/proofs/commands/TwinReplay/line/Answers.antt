use Rattle.std.proofs.Common.{sym, ap}
use Rattle.twin_schedule.proofs.Replaying.{is-waiting, staged-at}
use Rattle.twin_schedule.proofs.commands.TwinReplay.line.Goals as goal

pub returns-in-Some : goal.returns-in-Some
returns-in-Some c = λ w stands. (staged-at w _ c.in-Some.stage c.in-Some.is stands).line

pub returns-in-None : goal.returns-in-None
returns-in-None c = λ w stands. ap (λ v. v.kept.line) (sym (is-waiting w _ c.in-None.is stands))
