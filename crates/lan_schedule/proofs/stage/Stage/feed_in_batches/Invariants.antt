-- What is left leads to the whole where the answers at hand are those of the next frames.
use Rattle.std.proofs.Common.{◌+◌, ◌-◌}
use Rattle.lan_schedule.specs.Acts.{span}
use Rattle.lan_schedule.specs.Lines.{feed}
use Rattle.lan_schedule.specs.Ends.{moment}
use Rattle.lan_schedule.proofs.Batching.{LeadsWhere, Awaits, reaching}
use Rattle.lan_schedule.proofs.stage.Stage.feed_in_batches.Given as goal

abbrev pub invariant-loop-behind : goal.invariant-loop-behind
invariant-loop-behind g l =
    let r = g.R.Recorder in
    LeadsWhere (Awaits (l.first + l.behind) l.station l.ahead) r.Took r.Broke
    (feed l.first l.last l.station) (moment l.fn.self l.fn.outlet)
    (span (reaching l.first l.station) l.behind (l.last + 1 - l.first - l.behind))
    (moment l.self l.outlet)
