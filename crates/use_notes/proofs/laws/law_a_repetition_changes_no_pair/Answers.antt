use Rattle.use_notes.proofs.Fronts.{repeated-in, repeated-out}
use Rattle.use_notes.proofs.laws.law_a_repetition_changes_no_pair.Goals as goal

pub returns : goal.returns
returns c = λ later before e packet time order verdict. (
  repeated-in later before e packet time order verdict,
  repeated-out later before e packet time order verdict,
)
