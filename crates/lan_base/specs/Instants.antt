-- Times of packets in nanoseconds, beside the timers of key agreement.
use Rattle.std.specs.Prelude.{ℕ, ◌+◌, ◌*◌, nat_lt, Bool}
use Rattle.lan_base.specs.Timers.{life_time}

-- a tick of key agreement: 0.1 s
abbrev pub tick_nanos : ℕ
tick_nanos = 100000000

-- a time is less than MKA Life Time before another, or behind it
abbrev pub is_recent : ℕ → ℕ → Bool
is_recent nanos now = nat_lt now (nanos + life_time * tick_nanos)
