-- What is kept of what one member says.
use Rattle.std.specs.Prelude.{ℕ, Option}
use Rattle.member_notes.specs.declared.claim.Claim.{Claim}
use Rattle.member_notes.specs.declared.facts.MemberCounts.{MemberCounts}

-- what is told of it, the greatest key number that it gave, and what the last new MKPDU says if that serves
pub record Speaker : Type 0 where
  pub counts : MemberCounts
  pub greatest : ℕ
  pub claim : Option Claim
