use Rattle.association_slots.proofs.Learning.{card_known}
use Rattle.association_slots.proofs.laws.law_cards.Goals as goal

pub returns : goal.returns
returns _ c ws vs a i v at = card_known c v.reads (a.seats i v at).0.reads
