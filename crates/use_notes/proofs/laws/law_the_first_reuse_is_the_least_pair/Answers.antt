use Rattle.use_notes.proofs.Judging.{judged}
use Rattle.use_notes.proofs.laws.law_the_first_reuse_is_the_least_pair.Goals as goal

pub returns : goal.returns
returns c = judged
