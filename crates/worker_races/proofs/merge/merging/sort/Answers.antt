use Rattle.std.proofs.Common.{rules}
use Rattle.std.proofs.lemmas.List.Sorted.{answers_always}
use Rattle.worker_races.specs.merge.Ranks.{is_sooner}
use Rattle.worker_races.specs.declared.merge.rank.Rank.{Rank}
use Rattle.worker_races.proofs.weaving.Stable.{sorted_is-in_order}
use Rattle.worker_races.proofs.weaving.Order.{sooner_weak}
use Rattle.worker_races.proofs.merge.merging.sort.Goals as goal

pub returns : goal.returns
returns c =
    sorted_is-in_order is_sooner sooner_weak _ _
    (c.in_ok-sort_by_key.ensures.sorted (λ (r : Rank). r) (answers_always _ _ _ (λ f a r g h. search rules)))
    (c.sort_by_key.ensures.stable (λ (r : Rank). r) (answers_always _ _ _ (λ f a r g h. search rules)))
