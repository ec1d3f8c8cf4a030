use Rattle.association_slots.proofs.laws.law_lost_additions.Goals as goal

pub returns : goal.returns
returns _ c ws vs a = (a.ledger.cause, a.ledger.twice)
