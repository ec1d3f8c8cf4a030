use Rattle.association_slots.proofs.laws.law_over.Goals as goal

pub returns : goal.returns
returns _ c ws vs a m i = (a.ledger.over m i).1
