-- How the numbers that were sent are kept, each with a countdown (this profile's own rule).
use Rattle.std.specs.Prelude.{ℕ, ◌-◌, ◌%◌, Bool, true, false, ◌&&◌, map, nat_lt, nat_le, slice_index, slice_set, replicate}
use Rattle.lan_base.specs.Timers.{life_time}
use Rattle.peer_lists.specs.declared.sent_numbers.SentNumbers.{SentNumbers}

-- before any number is sent
abbrev pub no_numbers : SentNumbers
no_numbers = record { last = 0; may_send = true; left = replicate life_time 0 }

-- the numbers a tick later
abbrev pub numbers_after_tick : SentNumbers → SentNumbers
numbers_after_tick s = record { last = s.last; may_send = true; left = map (λ n. n - 1) s.left }

-- the numbers after one more was sent
abbrev pub numbers_after_sent : ℕ → SentNumbers → SentNumbers
numbers_after_sent n s =
    record { last = n; may_send = false; left = slice_set s.left (n % life_time) life_time }

-- whether a number is one of the last ones and has ticks left
abbrev pub is_number_recent : SentNumbers → ℕ → Bool
is_number_recent s n =
    nat_le n s.last
    && (nat_lt (s.last - n) life_time && nat_lt 0 (slice_index s.left (n % life_time)))
