-- What is told under some numbers, judged by hand.
use Rattle.std.proofs.Common.{◌≡◌, lit<, lit≤, ◌≤◌, ℕ, zero, suc, Bool, List, [], ◌∷◌, Option, Some, None, refl, arith}
use Rattle.std.specs.Prelude.{◌==◌, option_and_then, slice_get}
use Rattle.least_pairs.specs.Pairs.{Noted, Breaks, IsJudged, IsFound, IsFront}

abbrev same : ℕ → ℕ → Bool
same a b = a == b

abbrev told_in : List (Option (ℕ × ℕ)) → Noted ℕ ℕ
told_in told m = option_and_then (λ o. o) (slice_get told m)

-- under 1 of key 7 that it is 5, under 2 of key 8 that it is 5, under 3 and 4 of key 7 that it is 6
abbrev told : Noted ℕ ℕ
told = told_in (None ∷ Some (7, 5) ∷ Some (8, 5) ∷ Some (7, 6) ∷ Some (7, 6) ∷ [])

breaks : Breaks ℕ ℕ same told 1 3
breaks = record {
  key = 7;
  one = 5;
  other = 6;
  order = lit< tt;
  first = refl;
  second = refl;
  apart = refl;
}

-- 1 and 4 break too, but are not the least pair
not_the_least : IsJudged (Breaks ℕ ℕ same told) (Some (1, 4)) → ⊥
not_the_least judged = let less = judged.least 1 3 breaks in omega (arith, less)

-- and a verdict that names none is refused
not_none : IsJudged (Breaks ℕ ℕ same told) None → ⊥
not_none judged = judged 1 3 breaks

-- where nothing is told, nothing breaks
abbrev silent : Noted ℕ ℕ
silent m = None

none : IsJudged (Breaks ℕ ℕ same silent) None
none a b broken = absurd (cc broken.first)

-- a front of two, and what is not one
abbrev two : Noted ℕ ℕ
two = told_in (None ∷ Some (7, 5) ∷ Some (8, 5) ∷ [])

front : IsFront ℕ ℕ 2 two told
front = record { same = same_below; ends = ends_there }
  where
    same_below : (m : ℕ) → m ≤ 2 → told m ≡ two m
    same_below zero _ = refl
    same_below (suc zero) _ = refl
    same_below (suc (suc zero)) _ = refl
    same_below (suc (suc (suc m))) less = absurd (omega (arith, less))

    ends_there : (m : ℕ) (kv : ℕ × ℕ) → two m ≡ Some kv → m ≤ 2
    ends_there zero kv is = omega arith
    ends_there (suc zero) kv is = omega arith
    ends_there (suc (suc zero)) kv is = omega arith
    ends_there (suc (suc (suc m))) kv is = absurd (cc is)

no_front : IsFront ℕ ℕ 3 two told → ⊥
no_front is = absurd (cc (is.same 3 (lit≤ tt)))

-- the first of key 7 is under 1
found : IsFound ℕ ℕ told 7 (Some (1, 5))
found = (refl, first)
  where
    first : (m : ℕ) (w : ℕ) → told m ≡ Some (7, w) → 1 ≤ m
    first zero w is = absurd (cc is)
    first (suc m) w is = omega arith
