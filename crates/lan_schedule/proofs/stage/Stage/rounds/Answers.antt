use Rattle.std.proofs.Common.{arith}
use Rattle.lan_schedule.specs.Lines.{round}
use Rattle.lan_schedule.proofs.Doing.{in-turn, span-start, span-step, span-exit, span-end}
use Rattle.lan_schedule.proofs.stage.Stage.rounds.Goals as goal

pub loop-init : goal.loop-init
loop-init g c = span-start in-turn (λ _. round) c.args.count _

pub returns-in_err-round : goal.returns-in_err-round
returns-in_err-round g c =
    span-exit (λ _. round) c.loop.counter c.args.count _ _ _ _ _ _ (omega arith) c.loop.invariant
    c.in_err-round.ensures c.from_residual.ensures.1

pub loop-preserved : goal.loop-preserved
loop-preserved g c =
    span-step (λ _. round) c.loop.counter c.args.count _ _ _ _ (omega arith) c.loop.invariant
    c.in_ok-round.ensures

pub returns : goal.returns
returns g c = span-end (λ _. round) c.loop.counter c.args.count _ _ _ (omega arith) c.loop.invariant
