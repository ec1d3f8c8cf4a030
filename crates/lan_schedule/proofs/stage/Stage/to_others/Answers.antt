use Rattle.std.proofs.Common.{arith}
use Rattle.lan_schedule.specs.Lines.{pass}
use Rattle.lan_schedule.proofs.Doing.{span-step, span-exit, span-end}
use Rattle.lan_schedule.proofs.Looking.{stations-leads}
use Rattle.lan_schedule.proofs.stage.Stage.to_others.Goals as goal

pub loop-station-init : goal.loop-station-init
loop-station-init g c = stations-leads (pass c.args.frame c.args.from) c.count-station-end.result _
    c.count-station-end.ensures

pub returns-in_err-pass : goal.returns-in_err-pass
returns-in_err-pass g c =
    span-exit (pass c.args.frame c.args.from) c.loop-station.station c.count-station-end.result _ _
    _ _ _ _ (omega arith) c.loop-station.invariant
    c.in_err-pass.ensures c.from_residual.ensures.1

pub loop-station-preserved : goal.loop-station-preserved
loop-station-preserved g c =
    span-step (pass c.args.frame c.args.from) c.loop-station.station c.count-station-end.result _ _
    _ _ (omega arith) c.loop-station.invariant
    c.in_ok-pass.ensures

pub returns : goal.returns
returns g c = span-end (pass c.args.frame c.args.from) c.loop-station.station
    c.count-station-end.result _ _ _ (omega arith) c.loop-station.invariant
