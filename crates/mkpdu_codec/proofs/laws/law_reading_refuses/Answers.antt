use Rattle.mkpdu_codec.proofs.Order.{refused_exactly}
use Rattle.mkpdu_codec.proofs.laws.law_reading_refuses.Goals as goal

pub returns : goal.returns
returns c = refused_exactly
