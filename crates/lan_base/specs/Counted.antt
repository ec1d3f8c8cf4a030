-- The draws of a supply that counts, which is this profile's own rule.
use Rattle.std.specs.Prelude.{ℕ, ◌+◌, ◌%◌, ◌^◌, List, Option, Some}
use Rattle.std.specs.Int.{w128, to_be_bytes}

-- a number modulo 2 ^ 128 in 16 octets, the highest first
unfoldable pub counted : ℕ → List ℕ
counted n = to_be_bytes w128 (n % 2 ^ 128)

-- after so many draws, the draw that comes after k others
abbrev pub count_from : ℕ → ℕ → Option (List ℕ)
count_from drawn k = Some (counted (drawn + k + 1))
