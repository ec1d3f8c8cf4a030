use Rattle.std.proofs.Common.{arith}
use Rattle.lan_schedule.specs.Lines.{tick}
use Rattle.lan_schedule.proofs.Doing.{in-turn, span-start, span-step, span-exit, span-end}
use Rattle.lan_schedule.proofs.stage.Stage.ticks.Goals as goal

pub loop-init : goal.loop-init
loop-init g c = span-start in-turn (λ _. tick c.args.station) c.args.count _

pub returns-in_err-tick : goal.returns-in_err-tick
returns-in_err-tick g c =
    span-exit (λ _. tick c.args.station) c.loop.counter c.args.count _ _ _ _ _ _ (omega arith)
    c.loop.invariant
    c.in_err-tick.ensures c.from_residual.ensures.1

pub loop-preserved : goal.loop-preserved
loop-preserved g c =
    span-step (λ _. tick c.args.station) c.loop.counter c.args.count _ _ _ _ (omega arith)
    c.loop.invariant
    c.in_ok-tick.ensures

pub returns : goal.returns
returns g c = span-end (λ _. tick c.args.station) c.loop.counter c.args.count _ _ _ (omega arith)
    c.loop.invariant
