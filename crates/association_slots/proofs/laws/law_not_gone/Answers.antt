use Rattle.association_slots.proofs.laws.law_not_gone.Goals as goal

pub returns : goal.returns
returns _ c ws vs a i v at = (a.seats i v at).1.not_gone
