use Rattle.next_numbers.proofs.Turns.{waiting-framed}
use Rattle.next_numbers.proofs.laws.law_a_claim_that_waits_has_its_frame.Goals as goal

pub returns : goal.returns
returns c = waiting-framed
