use Rattle.association_slots.proofs.CardWords.{card_stays}
use Rattle.association_slots.specs.Cards.{card_words}
use Rattle.association_slots.proofs.laws.law_earlier_cards_stay.Goals as goal

pub returns : goal.returns
returns _ c card epoch some given = card_stays c (card_words card) epoch some given
