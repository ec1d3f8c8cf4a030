use Rattle.std.proofs.Common.{◌≡◌, length}
use Rattle.std.specs.Vec.Iter.{into_iter_items, into_iter_len}
use Rattle.lan_schedule.specs.Acts.{each}
use Rattle.lan_schedule.specs.Lines.{control_act, controlled}
use Rattle.lan_schedule.specs.Ends.{moment}
use Rattle.lan_schedule.proofs.Doing.{Leads}
use Rattle.lan_schedule.proofs.stage.Stage.control.Given as goal

abbrev pub invariant-loop-kept : goal.invariant-loop-kept
invariant-loop-kept g l =
    let r = g.R.Recorder in
    Leads r.Took r.Broke (control_act l.fn.control.items) (moment l.fn.self l.fn.outlet)
    (each controlled (into_iter_items l.kept-iterator)) (moment l.self l.outlet)
    × (into_iter_len l.kept-iterator ≡ length (into_iter_items l.kept-iterator))
