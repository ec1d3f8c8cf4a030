use Rattle.mkpdu_codec.proofs.FrameAgain.{read_again}
use Rattle.mkpdu_codec.proofs.laws.law_spelled_is_read.Goals as goal

pub returns : goal.returns
returns c = λ frame check a covered spells. read_again frame a covered check spells
