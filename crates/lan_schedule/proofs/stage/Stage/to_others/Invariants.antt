use Rattle.std.proofs.Common.{◌-◌}
use Rattle.lan_schedule.specs.Acts.{span}
use Rattle.lan_schedule.specs.Lines.{pass, to_others}
use Rattle.lan_schedule.specs.Ends.{moment}
use Rattle.lan_schedule.proofs.Doing.{Leads}
use Rattle.lan_schedule.proofs.stage.Stage.to_others.Given as goal

abbrev pub invariant-loop-station : goal.invariant-loop-station
invariant-loop-station g l =
    let r = g.R.Recorder in
    Leads r.Took r.Broke (to_others l.frame l.from)
    (moment l.fn.self l.fn.outlet)
    (span (pass l.frame l.from) l.station (l.station-end - l.station))
    (moment l.self l.outlet)
