use Rattle.std.proofs.Common.{◌≡◌, drop}
use Rattle.lan_core.specs.Lives.{drawn_sak}
use Rattle.lan_core.proofs.event_facts.EventFacts.installed.Given as goal

abbrev pub invariant-loop-fact : goal.invariant-loop-fact
invariant-loop-fact l = drawn_sak (drop l.fact-index l.facts) ≡ drawn_sak l.self.facts
