use Rattle.std.proofs.Common.{arith}
use Rattle.twin_schedule.specs.Lines.{tick_both}
use Rattle.twin_schedule.proofs.Doing.{span-end, span-exit, span-step}
use Rattle.twin_schedule.proofs.Looking.{stations-leads}
use Rattle.twin_schedule.proofs.stage.Stage.round.Goals as goal

pub loop-station-init : goal.loop-station-init
loop-station-init g c =
    stations-leads tick_both c.station_count-station-end.result _ c.station_count-station-end.ensures

pub returns-in_err-tick_both : goal.returns-in_err-tick_both
returns-in_err-tick_both g c =
    span-exit tick_both c.loop-station.station c.station_count-station-end.result _ _ _ _ _ _ (omega arith)
    c.loop-station.invariant c.in_err-tick_both.ensures c.from_residual.ensures.1

pub loop-station-preserved : goal.loop-station-preserved
loop-station-preserved g c =
    span-step tick_both c.loop-station.station c.station_count-station-end.result _ _ _ _ (omega arith)
    c.loop-station.invariant c.in_ok-tick_both.ensures

pub returns : goal.returns
returns g c =
    span-end tick_both c.loop-station.station c.station_count-station-end.result _ _ _ (omega arith)
    c.loop-station.invariant
