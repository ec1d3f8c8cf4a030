-- So many reports were told.
use Rattle.std.proofs.Common.{◌≡◌, List, length}
use Rattle.lan_schedule.specs.Reports.{Report}
use Rattle.lan_schedule.proofs.RaceTold.{HasTold}
use Rattle.lan_schedule.proofs.weaving.tell_all.Given as goal

abbrev pub invariant-loop : goal.invariant-loop
invariant-loop g l = (all : List Report) → g.R.Preparing.Ready l.fn.recorder all → length all ≡ l.count
    → HasTold g.R.Preparing.Ready g.R.Recorder.Took all l.counter l.fn.outlet l.recorder l.outlet
