use Rattle.worker_races.proofs.CardsBehind.{carded-more}
use Rattle.worker_races.proofs.laws.law_new_words_owe_no_card.Goals as goal

pub returns : goal.returns
returns c = λ settings users r cs one stepped many carded. carded-more settings users r cs one stepped many carded
