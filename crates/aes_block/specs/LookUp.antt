-- Look-ups in tables of 16 entries, which read no place in memory.
use Rattle.std.specs.Prelude.{ℕ, nat_lt, if◌then◌else◌, List, slice_index, bit_and}

-- the entry at the place that bits 0 to 3 say, and 0 where bit 7 is set
abbrev pub entry_at : List ℕ → ℕ → ℕ
entry_at table at =
    if nat_lt (bit_and at 0x8f) 16 then slice_index table (bit_and at 0x8f) else 0
