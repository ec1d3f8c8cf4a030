use Rattle.std.proofs.Common.{◌≡◌, take}
use Rattle.std.specs.List.{flat_map}
use Rattle.xpn_numbers.specs.Candidates.{and_above, with_all}
use Rattle.xpn_numbers.proofs.highs.try_each.Given as goal

abbrev pub invariant-loop-high : goal.invariant-loop-high
invariant-loop-high l = l.tried.items ≡ with_all l.initial.tried.items (flat_map and_above (take l.high-index l.highs))
