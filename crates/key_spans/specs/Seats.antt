-- What is kept of when stations leave: the seat of each place.
use Rattle.std.specs.Prelude.{ℕ, ◌≡◌, ◌==◌, if◌then◌else◌, length, List, slice_get, Option, Some, None}
use Rattle.std.specs.List.{filter}
use Rattle.lan_core.specs.declared.fact.Fact.{Fact}
use Rattle.key_spans.specs.declared.clock.Clock.{Clock}
use Rattle.key_spans.specs.declared.seat.Seat.{Seat}
use Rattle.key_spans.specs.declared.seat.Seat.TheVariants.{Empty, Taken, Passed, Left}
use Rattle.key_spans.specs.Spans.{clock, start}
use Rattle.key_spans.specs.Leaving.{Stay, is_elsewhere, stay_from}

-- a seat where its station was there last at this time, and ticked so often elsewhere since
abbrev pub seat_by : ℕ → ℕ → Seat
seat_by at passes = if passes == 0 then Taken at else if passes == 1 then Passed at else Left at

abbrev pub seat_of : ℕ → Option Stay → Seat
seat_of s None = Empty
seat_of s (Some stay) = seat_by stay.last (length (filter (is_elsewhere s) stay.since))

abbrev pub or_empty : Option Seat → Seat
or_empty None = Empty
or_empty (Some seat) = seat

abbrev pub seat_at : List Seat → ℕ → Seat
seat_at seats s = or_empty (slice_get seats s)

-- the seats of all places, and the clock
pub record KeptSeats : Type 0 where
  pub clock : Clock
  pub seats : List Seat

-- they are those of these facts
pub record AreSeatsOf (facts : List Fact) (kept : KeptSeats) : Type 0 where
  pub clock_is : kept.clock ≡ clock start facts
  pub seats_are : (s : ℕ) → seat_at kept.seats s ≡ seat_of s (stay_from s start facts)
