use Rattle.association_slots.proofs.laws.law_words.Goals as goal

pub returns : goal.returns
returns _ c ws vs a = (a.words, a.cards)
