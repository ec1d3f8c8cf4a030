use Rattle.std.proofs.Common.{◌+◌, ◌-◌}
use Rattle.lan_core.specs.declared.event.Event.TheVariants.{Deliver}
use Rattle.lan_schedule.specs.Acts.{happen, span}
use Rattle.lan_schedule.specs.Lines.{feed}
use Rattle.lan_schedule.specs.Ends.{moment}
use Rattle.lan_schedule.proofs.Doing.{Leads}
use Rattle.lan_schedule.proofs.stage.Stage.feed.Given as goal

abbrev pub invariant-loop-behind : goal.invariant-loop-behind
invariant-loop-behind g l =
    let r = g.R.Recorder in
    Leads r.Took r.Broke (feed l.first l.last l.station)
    (moment l.fn.self l.fn.outlet)
    (span (λ k. happen (Deliver (l.first + k) l.station)) l.behind (l.last + 1 - l.first - l.behind))
    (moment l.self l.outlet)
