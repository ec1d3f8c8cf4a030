use Rattle.association_slots.proofs.laws.law_sums.Goals as goal

pub returns : goal.returns
returns _ c ws vs a = (a.sums.sum, λ f i. (a.sums.shut_sum f i).0)
