use Rattle.station_words.proofs.Thrifty.{looked-left}
use Rattle.station_words.proofs.laws.law_looked_words_keep_a_run_thrifty.Goals as goal

pub returns : goal.returns
returns c = λ settings q r cs t n ahead all_in beside told_all past.
    looked-left settings q r cs t n ahead all_in beside told_all (λ v known an e. c.law_few_numbers_are_lost.ensures v known an e)
    past
