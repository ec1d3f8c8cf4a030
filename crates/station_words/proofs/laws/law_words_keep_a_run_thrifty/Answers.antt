use Rattle.station_words.proofs.Thrifty.{few-left}
use Rattle.station_words.proofs.laws.law_words_keep_a_run_thrifty.Goals as goal

pub returns : goal.returns
returns c = λ settings users state r cs stands stepped caught.
    few-left settings r cs caught (λ v known an e. c.law_few_numbers_are_lost.ensures v known an e)
    (λ s past. c.law_a_place_without_a_station_is_blank.ensures settings users state r s stands stepped past)
