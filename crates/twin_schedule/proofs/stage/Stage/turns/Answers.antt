use Rattle.std.proofs.Common.{arith}
use Rattle.twin_schedule.specs.inside.Turning.{turn_of}
use Rattle.twin_schedule.proofs.Doing.{in-turn, span-end, span-exit, span-start, span-step}
use Rattle.twin_schedule.proofs.stage.Stage.turns.Goals as goal

pub loop-init : goal.loop-init
loop-init g c = span-start in-turn (λ _. turn_of c.args.turn) c.args.count _

pub returns-in_err-turn : goal.returns-in_err-turn
returns-in_err-turn g c =
    span-exit (λ _. turn_of c.args.turn) c.loop.counter c.args.count _ _ _ _ _ _ (omega arith)
    c.loop.invariant c.in_err-turn.ensures c.from_residual.ensures.1

pub loop-preserved : goal.loop-preserved
loop-preserved g c =
    span-step (λ _. turn_of c.args.turn) c.loop.counter c.args.count _ _ _ _ (omega arith)
    c.loop.invariant c.in_ok-turn.ensures

pub returns : goal.returns
returns g c =
    span-end (λ _. turn_of c.args.turn) c.loop.counter c.args.count _ _ _ (omega arith)
    c.loop.invariant
