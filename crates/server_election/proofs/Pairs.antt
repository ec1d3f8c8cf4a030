-- Pairs of priority and SCI are in order.
use Rattle.std.proofs.Common.{◌≡◌, true, false, inl, inr}
use Rattle.std.specs.Cmp.{IsStrictWeakOrder, IsTotalOrder}
use Rattle.std.proofs.lemmas.Cmp.{then_total, on_total, nat_cmp_total, nat_list_cmp_total}
use Rattle.std.proofs.lemmas.List.MinMax.{ranks_by}
use Rattle.std.proofs.lemmas.Bool.{cases_Bool, both_ways}
use Rattle.server_election.specs.declared.candidate.Candidate.{Candidate}
use Rattle.server_election.specs.Election.{pair_cmp, precedes}

pub pair_cmp-total : IsTotalOrder pair_cmp
pair_cmp-total =
    then_total (on_total (λ (x : Candidate). x.priority) nat_cmp_total) (on_total (λ (x : Candidate). x.sci.0) nat_list_cmp_total)

pub precedes-order : IsStrictWeakOrder precedes
precedes-order = ranks_by pair_cmp-total (λ (x : Candidate). x)

pub precedes-itself : (x : Candidate) → precedes x x ≡ false
precedes-itself x =
    elim (cases_Bool (precedes x x)) [ inl is ↦ precedes-order.one_way x x is | inr not ↦ not ]

pub precedes-trans : (x y z : Candidate) → precedes x y ≡ true → precedes y z ≡ true → precedes x z ≡ true
precedes-trans x y z xy yz =
    elim (cases_Bool (precedes x z)) [ inl is ↦ is | inr not ↦ absurd (both_ways (precedes x y) (precedes-order.chain x z y not (precedes-order.one_way y z yz)) xy) ]
