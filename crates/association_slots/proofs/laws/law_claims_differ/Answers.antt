use Rattle.association_slots.proofs.laws.law_claims_differ.Goals as goal

pub returns : goal.returns
returns _ c ws vs a = a.ledger.differ
