use Rattle.station_words.specs.Telling.{CatchUp}
use Rattle.group_safety.specs.Accounts.{onward}
use Rattle.station_words.proofs.Onward.{tied-by, onward-carried, follows-caught}
use Rattle.station_words.proofs.laws.law_all_words_stay_caught_up.Goals as goal

pub returns : goal.returns
returns c = λ settings users old new x r cs ds before after step taken followed.
    tied-by CatchUp onward onward-carried settings x r cs ds (λ s v w f. follows-caught s x.facts v w f)
    (λ s k carries. c.law_facts_move_what_transmits.ensures settings users old new x r before after step s k carries)
    (λ s id an epoch sak has. c.law_an_installed_key_is_held.ensures settings users old x r before step s id an epoch sak has)
    (λ s k j carries. c.law_an_account_goes_onward.ensures settings users x r step s k j carries)
    taken followed
