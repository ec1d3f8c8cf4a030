-- What was shown so far, and what the other events show; all of it so far is counted.
use Rattle.std.proofs.Common.{◌≡◌, ◌++◌, List, drop}
use Rattle.lan_core.specs.declared.fact.Fact.{Fact}
use Rattle.fact_tally.specs.Summary.{counts}
use Rattle.lan_schedule.specs.inside.Weaves.{facts_in, shown_in}
use Rattle.lan_schedule.proofs.weaving.shown_in.Given as goal

abbrev pub invariant-loop-event : goal.invariant-loop-event
invariant-loop-event l =
    (l.shown ++ shown_in (drop l.event-index l.events) l.kept l.left
    ≡ shown_in l.events l.initial.kept l.frames)
    × ((before : List Fact) → l.fn.tally ≡ counts before → l.tally ≡ counts (facts_in before l.shown))
