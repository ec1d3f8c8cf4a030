use Rattle.std.proofs.Common.{◌≡◌, ◌++◌, take, map}
use Rattle.xpn_numbers.specs.Candidates.{xpn_candidate}
use Rattle.xpn_numbers.proofs.trying.append_ssci.Given as goal

abbrev pub invariant-loop-high : goal.invariant-loop-high
invariant-loop-high l = l.into.items ≡ l.initial.into.items ++ map (xpn_candidate l.tried l.clear l.salt l.ssci) (take l.high-index l.high-items)
