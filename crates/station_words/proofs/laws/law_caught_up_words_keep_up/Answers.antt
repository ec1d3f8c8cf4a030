use Rattle.station_words.proofs.Onward.{caught-kept}
use Rattle.station_words.proofs.laws.law_caught_up_words_keep_up.Goals as goal

pub returns : goal.returns
returns c = caught-kept
