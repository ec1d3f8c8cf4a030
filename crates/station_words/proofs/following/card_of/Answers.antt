use Rattle.std.proofs.Common.{sym, ap, ◌∙◌}
use Rattle.std.specs.Prelude.{option_map}
use Rattle.station_words.specs.inside.Cards.{card_of_key, card_held}
use Rattle.station_words.proofs.following.card_of.Goals as goal

pub returns-in-Some : goal.returns-in-Some
returns-in-Some c = λ settings users r stands.
    ap (option_map card_of_key) (sym c.in-Some.is ∙ c.held.ensures settings users r stands)
    ∙ ap (card_held settings r) (sym c.in-Installed.is)

pub returns-in-None : goal.returns-in-None
returns-in-None c = λ settings users r stands.
    ap (option_map card_of_key) (sym c.in-None.is ∙ c.held.ensures settings users r stands)
    ∙ ap (card_held settings r) (sym c.in-Installed.is)
