use Rattle.station_words.specs.Telling.{Tells}
use Rattle.group_safety.specs.Accounts.{ahead}
use Rattle.station_words.proofs.Onward.{tied-by, ahead-carried}
use Rattle.station_words.proofs.laws.law_all_words_stay_tied.Goals as goal

pub returns : goal.returns
returns c = λ settings users old new x r cs ds before after step exact taken followed.
    tied-by Tells ahead ahead-carried settings x r cs ds (λ s c d f. f.tells)
    (λ s k carries. c.law_facts_move_what_transmits.ensures settings users old new x r before after step s k carries)
    (λ s id an epoch sak has. c.law_an_installed_key_is_held.ensures settings users old x r before step s id an epoch sak has)
    (λ s k j carries. c.law_an_account_goes_on.ensures settings users x r step exact s k j carries)
    taken followed
