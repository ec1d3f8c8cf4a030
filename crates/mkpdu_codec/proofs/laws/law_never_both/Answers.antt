use Rattle.mkpdu_codec.proofs.Unique.{not_refused}
use Rattle.mkpdu_codec.proofs.laws.law_never_both.Goals as goal

pub returns : goal.returns
returns c = not_refused
