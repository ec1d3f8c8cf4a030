use Rattle.association_slots.proofs.laws.law_numbers_differ.Goals as goal

pub returns : goal.returns
returns _ c ws vs a = a.numbers
