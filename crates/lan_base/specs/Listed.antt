-- The draws of a supply that is listed.
use Rattle.std.specs.Prelude.{◌≡◌, ℕ, zero, suc, ◌+◌, ◌≤◌, List, [], ◌∷◌, length, Option, None}
use Rattle.std.specs.List.{slice_get}
use Rattle.std.proofs.Common.{arith}
use Rattle.std.proofs.lemmas.Option.{slice_get_past}

-- after so many draws, the draw that comes after k others, if the list has so many
abbrev pub list_from : List (List ℕ) → ℕ → ℕ → Option (List ℕ)
list_from values drawn k = slice_get values (drawn + k)

length-past : (values : List (List ℕ)) (i : ℕ) → slice_get values i ≡ None → length values ≤ i
length-past [] i none = omega arith
length-past (value ∷ values) zero none = absurd cc
length-past (value ∷ values) (suc i) none = omega (arith, length-past values i none)

-- behind the list's end there is nothing
pub list_from-ends : (values : List (List ℕ)) (drawn k : ℕ)
    → list_from values drawn k ≡ None → list_from values drawn (k + 1) ≡ None
list_from-ends values drawn k none =
    slice_get_past values (drawn + (k + 1)) (omega (arith, length-past values (drawn + k) none))
