use Rattle.std.proofs.Common.{arith}
use Rattle.lan_schedule.specs.Lines.{flow_round}
use Rattle.lan_schedule.proofs.Doing.{in-turn, span-start, span-step, span-exit, span-end}
use Rattle.lan_schedule.proofs.stage.Stage.flow.Goals as goal

pub loop-init : goal.loop-init
loop-init g c = span-start in-turn (λ _. flow_round) c.args.count _

pub returns-in_err-flow_round : goal.returns-in_err-flow_round
returns-in_err-flow_round g c =
    span-exit (λ _. flow_round) c.loop.counter c.args.count _ _ _ _ _ _ (omega arith)
    c.loop.invariant
    c.in_err-flow_round.ensures c.from_residual.ensures.1

pub loop-preserved : goal.loop-preserved
loop-preserved g c =
    span-step (λ _. flow_round) c.loop.counter c.args.count _ _ _ _ (omega arith) c.loop.invariant
    c.in_ok-flow_round.ensures

pub returns : goal.returns
returns g c = span-end (λ _. flow_round) c.loop.counter c.args.count _ _ _ (omega arith)
    c.loop.invariant
