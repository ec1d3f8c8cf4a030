use Rattle.station_words.proofs.Onward.{tied-beside}
use Rattle.station_words.proofs.laws.law_words_catch_up.Goals as goal

pub returns : goal.returns
returns c = tied-beside
