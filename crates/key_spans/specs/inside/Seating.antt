-- What one fact does to the seats.
use Rattle.std.specs.Prelude.{ℕ, ◌≡◌, ◌==◌, ◌<◌, true, if◌then◌else◌, length, List, Option, Some, None}
use Rattle.lan_core.specs.Run.{place}
use Rattle.lan_core.specs.declared.fact.Fact.{Fact}
use Rattle.key_spans.specs.declared.seat.Seat.{Seat}
use Rattle.key_spans.specs.declared.seat.Seat.TheVariants.{Empty, Taken, Passed, Left}
use Rattle.key_spans.specs.Leaving.{is_elsewhere, is_there}
use Rattle.key_spans.specs.Seats.{KeptSeats, seat_at}

-- its station ticks elsewhere
abbrev pub passed : Seat → Seat
passed Empty = Empty
passed (Taken at) = Passed at
passed (Passed at) = Left at
passed (Left at) = Left at

abbrev pub left_at : Seat → Option ℕ
left_at (Left at) = Some at
left_at _ = None

-- a seat after a fact, where this is the time then
abbrev pub seat_after : ℕ → ℕ → Fact → Seat → Seat
seat_after s at fact seat =
    if is_there s fact then Taken at else if is_elsewhere s fact then passed seat else seat

-- each seat became one by this, and the clock is as it was
pub record EachSeat (becomes : ℕ → Seat → Seat) (old new : KeptSeats) : Type 0 where
  pub clock_is : new.clock ≡ old.clock
  pub seats_are : (s : ℕ) → seat_at new.seats s ≡ becomes s (seat_at old.seats s)

abbrev pub stays : ℕ → Seat → Seat
stays s seat = seat

-- that of one place becomes another one
abbrev pub at_place : ℕ → (Seat → Seat) → ℕ → Seat → Seat
at_place t becomes s seat = if t == s then becomes seat else seat

-- where a fact tells that its station is there, it has a seat
abbrev pub HasSeat : Fact → KeptSeats → Type 0
HasSeat fact kept = is_there (place fact) fact ≡ true → place fact < length kept.seats
