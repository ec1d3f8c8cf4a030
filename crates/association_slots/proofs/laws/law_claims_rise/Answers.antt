use Rattle.association_slots.proofs.laws.law_claims_rise.Goals as goal

pub returns : goal.returns
returns _ c ws vs a i v at = let f = (a.seats i v at).0 in (f.claims_rise, λ g b given i is on met_is. f.not_below g given b i is on met_is)
