use Rattle.lan_schedule.proofs.Telling.{are-many, was-told, core-shown}
use Rattle.lan_schedule.proofs.laws.law_the_words_show_the_core.Goals as goal

pub returns-clause-many : goal.returns-clause-many
returns-clause-many c = are-many

pub returns-clause-shown : goal.returns-clause-shown
returns-clause-shown c = λ w replay s control words views stands has around.
    core-shown w s control words (was-told w replay s control stands has)
    (λ a tells. c.law_the_words_show_what_transmits.ensures control.view words views a around tells)
    (λ a up. c.law_the_words_are_not_behind.ensures control.view words views a around up)
