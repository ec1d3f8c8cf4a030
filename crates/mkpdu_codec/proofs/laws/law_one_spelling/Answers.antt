use Rattle.mkpdu_codec.proofs.Unique.{one_spelling}
use Rattle.mkpdu_codec.proofs.laws.law_one_spelling.Goals as goal

pub returns : goal.returns
returns c = one_spelling
