use Rattle.std.proofs.Common.{drop}
use Rattle.lan_schedule.specs.Acts.{each}
use Rattle.lan_schedule.specs.Lines.{spread}
use Rattle.lan_schedule.specs.Ends.{moment}
use Rattle.lan_schedule.proofs.Doing.{Leads}
use Rattle.lan_schedule.proofs.stage.Stage.spread_all.Given as goal

abbrev pub invariant-loop-frame : goal.invariant-loop-frame
invariant-loop-frame g l =
    let r = g.R.Recorder in
    Leads r.Took r.Broke (each spread l.frames)
    (moment l.fn.self l.fn.outlet)
    (each spread (drop l.frame-index l.frames)) (moment l.self l.outlet)
