use Rattle.mkpdu_codec.proofs.Unique.{same_covered}
use Rattle.mkpdu_codec.proofs.laws.law_covered_octets_decide.Goals as goal

pub returns : goal.returns
returns c = same_covered
