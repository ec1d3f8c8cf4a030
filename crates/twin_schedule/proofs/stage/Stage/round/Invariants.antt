use Rattle.std.proofs.Common.{◌-◌}
use Rattle.twin_schedule.specs.Acts.{span}
use Rattle.twin_schedule.specs.Lines.{round, tick_both}
use Rattle.twin_schedule.specs.Ends.{moment}
use Rattle.twin_schedule.specs.Stages.{StandsFor}
use Rattle.twin_schedule.proofs.Doing.{Leads}
use Rattle.twin_schedule.proofs.stage.Stage.round.Given as goal

abbrev pub invariant-loop-station : goal.invariant-loop-station
invariant-loop-station g l =
    let r = g.R.TwinRecorder in
    Leads StandsFor r.Took r.Broke round (moment l.fn.self l.fn.outlet)
    (span tick_both l.station (l.station-end - l.station)) (moment l.self l.outlet)
