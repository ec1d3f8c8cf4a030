-- How often a number was claimed, how many of an epoch were, and what is past them.
use Rattle.std.specs.Prelude.{ℕ, ◌+◌, ◌==◌, ◌&&◌, if◌then◌else◌, max, List, [], ◌∷◌}
use Rattle.association_slots.specs.Views.{one}
use Rattle.association_slots.specs.declared.view.NextSeen.{NextSeen}

-- how often a number of an epoch is in a list
abbrev pub times_in : ℕ → ℕ → List (ℕ × ℕ) → ℕ
times_in epoch pn [] = 0
times_in epoch pn (x ∷ xs) = one ((x.0 == epoch) && (x.1 == pn)) + times_in epoch pn xs

-- how many numbers of an epoch are in it
abbrev pub times_under : ℕ → List (ℕ × ℕ) → ℕ
times_under epoch [] = 0
times_under epoch (x ∷ xs) = one (x.0 == epoch) + times_under epoch xs

-- one more than the greatest of them, 0 for none
abbrev pub past_claims : ℕ → List (ℕ × ℕ) → ℕ
past_claims epoch [] = 0
past_claims epoch (x ∷ xs) = max (if x.0 == epoch then x.1 + 1 else 0) (past_claims epoch xs)

-- the greatest next number of an epoch that was seen, 0 for none
abbrev pub greatest_seen : ℕ → List NextSeen → ℕ
greatest_seen epoch [] = 0
greatest_seen epoch (f ∷ fs) =
    max (if f.epoch == epoch then f.next else 0) (greatest_seen epoch fs)
