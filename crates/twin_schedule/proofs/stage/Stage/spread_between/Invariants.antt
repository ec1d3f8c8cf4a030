use Rattle.std.proofs.Common.{◌+◌, ◌-◌}
use Rattle.twin_schedule.specs.Acts.{span}
use Rattle.twin_schedule.specs.Lines.{spread}
use Rattle.twin_schedule.specs.Ends.{moment}
use Rattle.twin_schedule.specs.Stages.{StandsFor}
use Rattle.twin_schedule.proofs.Doing.{Leads}
use Rattle.twin_schedule.proofs.stage.Stage.spread_between.Given as goal

abbrev pub invariant-loop-place : goal.invariant-loop-place
invariant-loop-place g l =
    let r = g.R.TwinRecorder in
    Leads StandsFor r.Took r.Broke
    (span (λ place. spread l.group (place + 1)) l.first (l.count - l.first))
    (moment l.fn.self l.fn.outlet)
    (span (λ place. spread l.group (place + 1)) l.place (l.count - l.place))
    (moment l.self l.outlet)
