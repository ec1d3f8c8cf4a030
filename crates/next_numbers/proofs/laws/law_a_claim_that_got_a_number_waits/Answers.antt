use Rattle.next_numbers.proofs.Awaiting.{waits-then}
use Rattle.next_numbers.proofs.laws.law_a_claim_that_got_a_number_waits.Goals as goal

pub returns : goal.returns
returns c = waits-then
