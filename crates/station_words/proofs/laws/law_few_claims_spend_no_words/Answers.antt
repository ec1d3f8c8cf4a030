use Rattle.station_words.proofs.Thrifty.{none-over, none-spent, words-left}
use Rattle.station_words.proofs.laws.law_few_claims_spend_no_words.Goals as goal

pub returns-clause-words : goal.returns-clause-words
returns-clause-words c = λ a v t an epoch low. words-left a v t an epoch (c.law_few_numbers_are_lost.ensures v t.keep_up.learned an epoch) low

pub returns-clause-stations : goal.returns-clause-stations
returns-clause-stations c = λ settings r cs s caught low spent.
    none-spent settings r cs caught (λ v known an e. c.law_few_numbers_are_lost.ensures v known an e) s low spent

pub returns-clause-marks : goal.returns-clause-marks
returns-clause-marks c = λ a v m t low i. none-over a v t m (c.law_few_numbers_are_lost.ensures v t.keep_up.learned m.an m.epoch) low i
