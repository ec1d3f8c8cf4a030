use Rattle.std.proofs.Common.{◌≡◌, ◌++◌}
use Rattle.xpn_numbers.proofs.Keeping.{shown_kept}
use Rattle.xpn_numbers.proofs.numbers.XpnNumbers.shown.Given as goal

abbrev pub invariant-loop-member : goal.invariant-loop-member
invariant-loop-member l = l.highs.items ++ shown_kept l.self l.key l.nanos l.member-iterator ≡ shown_kept l.self l.key l.nanos l.self.members
