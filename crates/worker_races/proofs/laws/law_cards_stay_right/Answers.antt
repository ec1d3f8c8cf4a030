use Rattle.std.proofs.Common.{◌∷◌}
use Rattle.worker_races.proofs.Carded.{carded-on}
use Rattle.worker_races.proofs.laws.law_cards_stay_right.Goals as goal

pub returns : goal.returns
returns c = λ settings users old new x r ds es before after stepped step keep followed carded.
    carded-on settings users x r ds es stepped step
    (λ s k carries. c.law_facts_move_what_transmits.ensures settings users old new x r before after step s k carries)
    (λ s id an epoch sak has. c.law_an_installed_key_is_held.ensures settings users old x r before step s id an epoch sak has)
    (c.law_epochs_count.ensures.counted settings users (x ∷ r) (step, stepped)) keep followed carded
