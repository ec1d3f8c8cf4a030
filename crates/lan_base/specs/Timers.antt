-- The timers of key agreement (IEEE Std 802.1X, clause 9), in ticks. A tick is 0.1 s, which is this
-- profile's own rule.
use Rattle.std.specs.Prelude.{ℕ}

-- MKA Hello Time: 2.0 s
abbrev pub hello_time : ℕ
hello_time = 20

-- MKA Life Time: 6.0 s
abbrev pub life_time : ℕ
life_time = 60

-- SAK Retire Time: 3.0 s
abbrev pub retire_time : ℕ
retire_time = 30
