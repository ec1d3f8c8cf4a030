use Rattle.member_notes.proofs.Repeated.{again-again, new-again}
use Rattle.member_notes.proofs.laws.law_a_repetition_comes_again.Goals as goal

pub returns-clause-new : goal.returns-clause-new
returns-clause-new c = new-again

pub returns-clause-again : goal.returns-clause-again
returns-clause-again c = again-again
