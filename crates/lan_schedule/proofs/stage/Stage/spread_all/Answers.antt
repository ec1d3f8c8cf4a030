use Rattle.std.proofs.Common.{arith}
use Rattle.lan_schedule.specs.Lines.{spread}
use Rattle.lan_schedule.proofs.Doing.{each-step, each-err, each-end, in-turn, leads-start}
use Rattle.lan_schedule.proofs.stage.Stage.spread_all.Goals as goal

pub loop-frame-init : goal.loop-frame-init
loop-frame-init g c = leads-start in-turn _ _

pub returns-in_err-spread : goal.returns-in_err-spread
returns-in_err-spread g c =
    each-err spread c.args.frames.now c.loop-frame.frame-index _ _ _ _ _ _ (omega arith)
    c.loop-frame.invariant
    c.in_err-spread.ensures c.from_residual.ensures.1

pub loop-frame-preserved : goal.loop-frame-preserved
loop-frame-preserved g c =
    each-step spread c.args.frames.now c.loop-frame.frame-index _ _ _ _ (omega arith)
    c.loop-frame.invariant
    c.in_ok-spread.ensures

pub returns : goal.returns
returns g c = each-end spread c.args.frames.now c.loop-frame.frame-index _ _ _ (omega arith)
    c.loop-frame.invariant
