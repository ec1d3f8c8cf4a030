use Rattle.std.proofs.Common.{map, take}
use Rattle.twin_schedule.specs.Reports.{AreTold}
use Rattle.twin_schedule.specs.inside.Telling.{report_with}
use Rattle.twin_schedule.proofs.telling.tell.Given as goal

abbrev pub invariant-loop-one : goal.invariant-loop-one
invariant-loop-one g l =
    AreTold g.R.TwinRecorder.Took l.fn.outlet
    (map (report_with l.first l.second) (take l.one-index l.told)) l.outlet
