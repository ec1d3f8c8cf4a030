use Rattle.std.proofs.Common.{drop}
use Rattle.twin_schedule.specs.Acts.{each}
use Rattle.twin_schedule.specs.Lines.{pass}
use Rattle.twin_schedule.specs.Ends.{moment}
use Rattle.twin_schedule.specs.Stages.{StandsFor}
use Rattle.twin_schedule.proofs.Doing.{Leads}
use Rattle.twin_schedule.proofs.stage.Stage.pass_to.Given as goal

abbrev pub invariant-loop-station : goal.invariant-loop-station
invariant-loop-station g l =
    let r = g.R.TwinRecorder in
    Leads StandsFor r.Took r.Broke (each (pass l.group l.frame l.from) l.stations)
    (moment l.fn.self l.fn.outlet)
    (each (pass l.group l.frame l.from) (drop l.station-index l.stations))
    (moment l.self l.outlet)
