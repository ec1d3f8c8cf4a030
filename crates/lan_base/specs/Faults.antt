-- Counts of faults (this profile's own rule). Nothing can raise a count that stands at its type's
-- end, so it counts as risen there.
use Rattle.std.specs.Prelude.{ℕ, ◌<◌, ◌≤◌, ◌+◌, ◌-◌, ◌^◌, ◌⊎◌, min}

-- the count rose from before to now, or stands at its end
abbrev pub Rose : ℕ → ℕ → Type 0
Rose before now = (before < now) ⊎ (2 ^ 64 - 1 ≤ now)

-- one more, as far as a u64 counts
abbrev pub one_more : ℕ → ℕ
one_more count = min (count + 1) (2 ^ 64 - 1)
