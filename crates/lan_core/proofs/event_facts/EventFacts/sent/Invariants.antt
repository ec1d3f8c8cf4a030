use Rattle.std.proofs.Common.{◌≡◌, drop}
use Rattle.lan_core.specs.inside.Shown.{sent_in}
use Rattle.lan_core.proofs.event_facts.EventFacts.sent.Given as goal

abbrev pub invariant-loop-fact : goal.invariant-loop-fact
invariant-loop-fact l = sent_in (drop l.fact-index l.facts) ≡ sent_in l.self.facts
