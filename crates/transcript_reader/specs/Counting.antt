-- How far the lines of a transcript are counted (this profile's own rule).
use Rattle.std.specs.Prelude.{ℕ, ◌+◌, min}

-- the number of the line after so many, as far as 32 bits count
abbrev pub number_after : ℕ → ℕ
number_after count = min (count + 1) 4294967295
