use Rattle.std.proofs.Common.{◌≡◌, ◌-◌}
use Rattle.lan_core.specs.declared.event.Event.TheVariants.{Emit}
use Rattle.lan_schedule.specs.Acts.{happen, times, span}
use Rattle.lan_schedule.specs.Ends.{moment}
use Rattle.lan_schedule.proofs.Doing.{Leads}
use Rattle.lan_schedule.proofs.stage.Stage.emit_all.Given as goal

abbrev pub invariant-loop : goal.invariant-loop
invariant-loop g l =
    let r = g.R.Recorder in
    Leads r.Took r.Broke (times l.count (happen Emit)) (moment l.fn.self l.fn.outlet)
    (span (λ _. happen Emit) l.counter (l.count - l.counter)) (moment l.self l.outlet)
    × (l.self.words ≡ l.fn.self.words)
