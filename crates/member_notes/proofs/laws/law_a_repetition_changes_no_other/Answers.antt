use Rattle.member_notes.proofs.Repeated.{others-same}
use Rattle.member_notes.proofs.laws.law_a_repetition_changes_no_other.Goals as goal

pub returns : goal.returns
returns c = others-same
