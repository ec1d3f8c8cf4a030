use Rattle.std.proofs.Common.{◌≡◌, ◌++◌, map}
use Rattle.member_notes.proofs.Heard.{member_at}
use Rattle.member_notes.proofs.member_facts.MemberFacts.members.Given as goal

abbrev pub invariant-loop-at : goal.invariant-loop-at
invariant-loop-at l = l.members.items ++ map member_at l.at-iterator ≡ map member_at l.self
