-- What is recorded of a fact that comes after others (this profile's own rule).
use Rattle.std.specs.Prelude.{◌≡◌, ℕ, ◌<◌, ◌/◌, ◌%◌, ◌^◌, List, [], ◌∷◌, ◌++◌, length, take, Option, Result, Ok, Err}
use Rattle.lan_base.specs.Told.{after}
use Rattle.lan_core.specs.declared.fact.Fact.{Fact}
use Rattle.capture_file.specs.Records.{records_of}
use Rattle.transcript_capture.specs.declared.clock.Clock.{Clock}
use Rattle.transcript_capture.specs.declared.fault.RecordError.{RecordError}
use Rattle.transcript_capture.specs.declared.fault.RecordError.TheVariants.{TooLong, Failed, Memory}
use Rattle.transcript_reader.specs.Time.{ticked, ticks}
use Rattle.transcript_capture.specs.Packets.{Fits, packet_of}

-- a clock after so many ticks; seconds are counted as far as a record's field holds them, and then
-- from 0 again
pub record IsClockAt (n : ℕ) (clock : Clock) : Type 0 where
  pub seconds : clock.seconds ≡ n / 10 % 2 ^ 32
  pub tenths : clock.tenths ≡ n % 10

-- a clock after facts
pub record IsClockAfter (facts : List Fact) (clock : Clock) : Type 0 where
  pub at : IsClockAt (ticks facts) clock
  pub own_is : clock.own ≡ ticked facts

-- the record of the packet of a fact that comes after others, if it has one
abbrev pub recorded : List Fact → Fact → List ℕ
recorded earlier fact = records_of (packet_of (ticks earlier) fact)

-- of octets a part was written, but not all
abbrev pub WrotePart : List ℕ → Option (List ℕ) → Option (List ℕ) → Type 0
WrotePart octets held then =
    (n : ℕ) × (n < length octets) × (then ≡ after held (take n octets))

-- What a call did with a fact that came after others: its record was written, and the clock goes on.
-- A frame that is too long, a fault of the sink and want of memory leave the clock, and a part of
-- the record at most.
abbrev pub Records : List Fact → Fact → Clock → Clock → Option (List ℕ) → Option (List ℕ)
    → Result (Unit {0}) RecordError → Type 0
Records earlier fact old new held then (Ok done) =
    Fits fact × IsClockAfter (earlier ++ fact ∷ []) new × (then ≡ after held (recorded earlier fact))
Records earlier fact old new held then (Err TooLong) =
    (Fits fact → ⊥) × (new ≡ old) × (then ≡ held)
Records earlier fact old new held then (Err Failed) =
    Fits fact × (new ≡ old) × WrotePart (recorded earlier fact) held then
Records earlier fact old new held then (Err Memory) =
    Fits fact × (new ≡ old) × WrotePart (recorded earlier fact) held then
