use Rattle.next_numbers.proofs.Bounds.{bounded-first, next-positive, plain-bounded, claim-passes}
use Rattle.next_numbers.proofs.Bounds.{no-claim-passes}
use Rattle.next_numbers.proofs.laws.law_next_numbers_stay_bounded.Goals as goal

pub returns-clause-first : goal.returns-clause-first
returns-clause-first c = bounded-first

pub returns-clause-positive : goal.returns-clause-positive
returns-clause-positive c = next-positive

pub returns-clause-plain : goal.returns-clause-plain
returns-clause-plain c = plain-bounded

pub returns-clause-claim : goal.returns-clause-claim
returns-clause-claim c = claim-passes

pub returns-clause-refused : goal.returns-clause-refused
returns-clause-refused c = no-claim-passes
