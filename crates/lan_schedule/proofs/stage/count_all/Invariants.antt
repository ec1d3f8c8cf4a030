use Rattle.std.proofs.Common.{◌≡◌, List, ◌++◌, take}
use Rattle.lan_core.specs.declared.fact.Fact.{Fact}
use Rattle.fact_tally.specs.Summary.{counts}
use Rattle.lan_schedule.proofs.stage.count_all.Given as goal

abbrev pub invariant-loop-fact : goal.invariant-loop-fact
invariant-loop-fact l = (shown : List Fact) → l.fn.tally ≡ counts shown
    → l.tally ≡ counts (shown ++ take l.fact-index l.facts)
