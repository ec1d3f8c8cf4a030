-- Numbers that fall (this profile's own rule): the message numbers and key numbers of lists that
-- stand newest first.
use Rattle.std.specs.Prelude.{ℕ, ◌<◌, List, [], ◌∷◌}

-- a number is greater than each of the others
abbrev pub IsAbove : ℕ → List ℕ → Type 0
IsAbove n [] = Unit {0}
IsAbove n (k ∷ ks) = (k < n) × IsAbove n ks

-- each number is greater than all that come after it
abbrev pub IsFalling : List ℕ → Type 0
IsFalling [] = Unit {0}
IsFalling (n ∷ ns) = IsAbove n ns × IsFalling ns
