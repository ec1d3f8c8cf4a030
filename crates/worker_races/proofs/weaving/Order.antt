-- The order of the merged list is a total preorder.
use Rattle.std.specs.Cmp.{IsTotalOrder, IsStrictWeakOrder}
use Rattle.std.proofs.lemmas.Cmp.{then_total, on_total, nat_cmp_total}
use Rattle.std.proofs.lemmas.List.Sorted.{ranks_by}
use Rattle.worker_races.specs.merge.Ranks.{rank_cmp, is_sooner}
use Rattle.worker_races.specs.declared.merge.rank.Rank.{Rank}

pub rank_total : IsTotalOrder rank_cmp
rank_total = then_total (on_total (λ (r : Rank). r.place) nat_cmp_total) (then_total (on_total (λ (r : Rank). r.late) nat_cmp_total) (then_total (on_total (λ (r : Rank). r.station) nat_cmp_total)
    (then_total (on_total (λ (r : Rank). r.epoch) nat_cmp_total) (then_total (on_total (λ (r : Rank). r.refused) nat_cmp_total) (then_total (on_total (λ (r : Rank). r.number) nat_cmp_total) (on_total (λ (r : Rank). r.log) nat_cmp_total))))))

pub sooner_weak : IsStrictWeakOrder is_sooner
sooner_weak = ranks_by rank_total (λ (i : Rank). i)
