use Rattle.std.proofs.Common.{ℕ, subst, arith}
use Rattle.association_slots.specs.Views.{In, present_at}
use Rattle.association_slots.proofs.laws.law_claims_are_numbers.Goals as goal

pub returns : goal.returns
returns _ c ws vs a b i is = let m = a.ledger.additions b i in let k = m.claim is in (omega (arith, a.settled.first_small.0, k.1), k.1, k.2, subst (λ (e : ℕ). In (present_at b.an e) c.points) k.0 m.pointed, k.3)
