-- Octets as strings of bits, the leftmost bit the highest one.
use Rattle.std.specs.Prelude.{ℕ, ◌/◌, ◌%◌, ◌^◌, Bool, ◌==◌, List, [], ◌∷◌}
use Rattle.std.specs.List.{flat_map}

-- whether the bit of weight 2 ^ k is set
abbrev pub has_bit : ℕ → ℕ → Bool
has_bit n k = (n / 2 ^ k) % 2 == 1

-- the eight bits of an octet, the highest first
abbrev pub octet_bits : ℕ → List Bool
octet_bits n =
    has_bit n 7 ∷ has_bit n 6 ∷ has_bit n 5 ∷ has_bit n 4 ∷ has_bit n 3 ∷ has_bit n 2 ∷ has_bit n 1
    ∷ has_bit n 0 ∷ []

-- the bits of octets, one octet after the other
abbrev pub bits : List ℕ → List Bool
bits octets = flat_map octet_bits octets
