-- The generator of values: a linear congruence of 64 bits, whose upper 31 bits are its values.
use Rattle.std.specs.Prelude.{ℕ, zero, suc, ◌+◌, ◌*◌, ◌/◌, ◌%◌, ◌^◌}

-- the state behind a state
abbrev pub next : ℕ → ℕ
next x = (x * 6364136223846793005 + 1442695040888963407) % 2 ^ 64

-- the state after so many steps
abbrev pub after : ℕ → ℕ → ℕ
after x zero = x
after x (suc k) = next (after x k)

-- the k-th value, from 1
abbrev pub value : ℕ → ℕ → ℕ
value x k = after x k / 2 ^ 33
