-- The order of the merged list: by place, claims before the step, and claims of one place by their
-- station, epoch, taken before refused, number and log.
use Rattle.std.specs.Prelude.{Bool, if◌then◌else◌, List, [], ◌∷◌}
use Rattle.std.specs.declared.cmp.Ordering.{Ordering}
use Rattle.std.specs.Ordering.{nat_cmp, ordering_then, is_lt}
use Rattle.worker_races.specs.declared.merge.rank.Rank.{Rank}

abbrev pub rank_cmp : Rank → Rank → Ordering
rank_cmp a b =
    ordering_then (nat_cmp a.place b.place) (ordering_then (nat_cmp a.late b.late)
    (ordering_then (nat_cmp a.station b.station) (ordering_then (nat_cmp a.epoch b.epoch)
    (ordering_then (nat_cmp a.refused b.refused) (ordering_then (nat_cmp a.number b.number)
    (nat_cmp a.log b.log))))))

abbrev pub is_sooner : Rank → Rank → Bool
is_sooner a b = is_lt (rank_cmp a b)

-- the sort by insertion: an element goes before the first that is not sooner than it
abbrev pub inserted : {X : Type 0} → (X → X → Bool) → X → List X → List X
inserted lt x [] = x ∷ []
inserted lt x (y ∷ ys) = if lt y x then y ∷ inserted lt x ys else x ∷ y ∷ ys

unfoldable pub in_order : {X : Type 0} → (X → X → Bool) → List X → List X
in_order lt [] = []
in_order lt (x ∷ xs) = inserted lt x (in_order lt xs)
