use Rattle.station_words.proofs.Showing.{shows-all}
use Rattle.station_words.proofs.laws.law_the_words_show_what_transmits.Goals as goal

pub returns : goal.returns
returns c = λ v words views a around t.
    shows-all v words a (c.law_words.ensures v words views around).0 t
    (λ an epoch opened all_in. (c.law_counted_next.ensures v words views around an epoch opened).2 all_in)
