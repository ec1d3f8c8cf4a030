-- The numbers that only a trace's lines have (this profile's own rule). Those of ticks, frames, user
-- data and CKNs are the ranges of the group.
use Rattle.std.specs.Prelude.{ℕ}

-- a line, without its ending, has at most so many octets
abbrev pub most_line : ℕ
most_line = 4096

-- a number has at most so many decimal digits
abbrev pub most_digits : ℕ
most_digits = 10

-- a frame waits for at most so many flow rounds
abbrev pub most_lag : ℕ
most_lag = 1000

-- the lowest packet number from which a key may be spent
abbrev pub least_rekey : ℕ
least_rekey = 2

-- the greatest priority of a station
abbrev pub most_priority : ℕ
most_priority = 255

-- a race has at most so many bursts
abbrev pub most_bursts : ℕ
most_bursts = 8

-- and at most so many lines of control
abbrev pub most_control : ℕ
most_control = 1000

-- a burst has at most so many workers, and so has a station in a race
abbrev pub most_workers : ℕ
most_workers = 8

-- a burst has at most so many frames
abbrev pub most_burst_frames : ℕ
most_burst_frames = 100000

-- a line injects at most so many octets
abbrev pub most_injected : ℕ
most_injected = 1600
