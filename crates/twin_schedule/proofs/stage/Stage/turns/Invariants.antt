use Rattle.std.proofs.Common.{◌-◌}
use Rattle.twin_schedule.specs.Acts.{times, span}
use Rattle.twin_schedule.specs.Ends.{moment}
use Rattle.twin_schedule.specs.Stages.{StandsFor}
use Rattle.twin_schedule.specs.inside.Turning.{turn_of}
use Rattle.twin_schedule.proofs.Doing.{Leads}
use Rattle.twin_schedule.proofs.stage.Stage.turns.Given as goal

abbrev pub invariant-loop : goal.invariant-loop
invariant-loop g l =
    let r = g.R.TwinRecorder in
    Leads StandsFor r.Took r.Broke (times l.count (turn_of l.turn)) (moment l.fn.self l.fn.outlet)
    (span (λ _. turn_of l.turn) l.counter (l.count - l.counter)) (moment l.self l.outlet)
