use Rattle.std.proofs.Common.{arith}
use Rattle.lan_schedule.specs.Lines.{tick}
use Rattle.lan_schedule.proofs.Doing.{span-step, span-exit, span-end}
use Rattle.lan_schedule.proofs.Looking.{stations-leads}
use Rattle.lan_schedule.proofs.stage.Stage.round.Goals as goal

pub loop-station-init : goal.loop-station-init
loop-station-init g c = stations-leads tick c.count-station-end.result _ c.count-station-end.ensures

pub returns-in_err-tick : goal.returns-in_err-tick
returns-in_err-tick g c =
    span-exit tick c.loop-station.station c.count-station-end.result _ _ _ _ _ _ (omega arith)
    c.loop-station.invariant
    c.in_err-tick.ensures c.from_residual.ensures.1

pub loop-station-preserved : goal.loop-station-preserved
loop-station-preserved g c =
    span-step tick c.loop-station.station c.count-station-end.result _ _ _ _ (omega arith)
    c.loop-station.invariant
    c.in_ok-tick.ensures

pub returns : goal.returns
returns g c = span-end tick c.loop-station.station c.count-station-end.result _ _ _ (omega arith)
    c.loop-station.invariant
