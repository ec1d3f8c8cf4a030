use Rattle.station_words.proofs.Catching.{not-behind, little-ahead}
use Rattle.station_words.proofs.laws.law_words_are_little_ahead.Goals as goal

pub returns : goal.returns
returns c = λ a v t an epoch. (not-behind a v t an epoch, little-ahead a v t an epoch (c.law_few_numbers_are_lost.ensures v t.keep_up.learned an epoch))
