use Rattle.association_slots.proofs.laws.law_gone.Goals as goal

pub returns : goal.returns
returns _ c ws vs a m i = (a.ledger.gone m i).0
