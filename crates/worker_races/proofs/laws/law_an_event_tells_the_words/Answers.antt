use Rattle.worker_races.proofs.GoesOn.{event-tells}
use Rattle.worker_races.proofs.laws.law_an_event_tells_the_words.Goals as goal

pub returns : goal.returns
returns c settings users old new r t x cs ds es before after stepped step own looked ahead followed =
    event-tells settings users r t x stepped step own
    (λ s k carries. c.law_facts_move_what_transmits.ensures settings users old new x r before after step s k carries)
    (λ s id an epoch sak has. c.law_an_installed_key_is_held.ensures settings users old x r before step s id an epoch sak has)
    (λ s shown k j follows. c.law_facts_tell_what_they_move.ensures.facts s shown k j follows)
    (λ s k j own_s carries follows. c.law_facts_tell_what_they_move.ensures.step settings users s r x k j stepped step own_s carries follows)
    cs ds es looked ahead followed
