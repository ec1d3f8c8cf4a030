use Rattle.std.proofs.Common.{arith}
use Rattle.twin_schedule.specs.Lines.{pass}
use Rattle.twin_schedule.proofs.Doing.{each-end, each-err, each-step, in-turn, leads-start}
use Rattle.twin_schedule.proofs.stage.Stage.pass_to.Goals as goal

pub loop-station-init : goal.loop-station-init
loop-station-init g c = leads-start in-turn _ _

pub returns-in_err-pass : goal.returns-in_err-pass
returns-in_err-pass g c =
    each-err (pass c.args.group c.args.frame c.args.from) c.args.stations.now
    c.loop-station.station-index _ _ _ _ _ _ (omega arith) c.loop-station.invariant
    c.in_err-pass.ensures c.from_residual.ensures.1

pub loop-station-preserved : goal.loop-station-preserved
loop-station-preserved g c =
    each-step (pass c.args.group c.args.frame c.args.from) c.args.stations.now
    c.loop-station.station-index _ _ _ _ (omega arith) c.loop-station.invariant
    c.in_ok-pass.ensures

pub returns : goal.returns
returns g c =
    each-end (pass c.args.group c.args.frame c.args.from) c.args.stations.now
    c.loop-station.station-index _ _ _ (omega arith) c.loop-station.invariant
