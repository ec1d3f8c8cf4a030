use Rattle.std.proofs.Common.{◌≡◌, drop}
use Rattle.lan_core.specs.Lives.{drawn_mi}
use Rattle.cak_roll.proofs.noting.mi_in.Given as goal

abbrev pub invariant-loop-fact : goal.invariant-loop-fact
invariant-loop-fact l = drawn_mi (drop l.fact-index l.facts) ≡ drawn_mi l.fn.facts
