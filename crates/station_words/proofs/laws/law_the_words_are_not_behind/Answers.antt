use Rattle.station_words.proofs.Showing.{shows-at-least}
use Rattle.station_words.proofs.laws.law_the_words_are_not_behind.Goals as goal

pub returns : goal.returns
returns c = λ v words views a around up.
    shows-at-least v words a (c.law_words.ensures v words views around).0 up
    (λ an epoch opened. (c.law_counted_next.ensures v words views around an epoch opened).1)
