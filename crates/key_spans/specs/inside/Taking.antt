-- What one fact does to the rows.
use Rattle.std.specs.Prelude.{ℕ, ◌≡◌, ◌≢◌, ◌≤◌, ◌∷◌, ◌++◌, true, All, IsTrue, List, [], map, slice_get, is_some, Option, Some, None, Result, Ok, Err, is_ok}
use Rattle.std.specs.declared.alloc.AllocError.{AllocError}
use Rattle.lan_core.specs.Run.{place}
use Rattle.lan_base.specs.declared.association_number.AssociationNumber.{AssociationNumber}
use Rattle.lan_base.specs.declared.association_number.AssociationNumber.TheVariants.{An0, An1, An2, An3}
use Rattle.lan_core.specs.declared.fact.Fact.{Fact}
use Rattle.lan_core.specs.declared.fact.Fact.TheVariants as shows
use Rattle.tick_columns.specs.Columns.{IsThinned, Columns}
use Rattle.key_spans.specs.declared.span.Span.{Span}
use Rattle.key_spans.specs.declared.span.Turn.{Turn}
use Rattle.key_spans.specs.declared.span.Turn.TheVariants.{Ends}
use Rattle.key_spans.specs.declared.span.Why.TheVariants.{Replaced}
use Rattle.key_spans.specs.Spans.{clock_after, opened, touched, turn_by}
use Rattle.key_spans.specs.Standing.{KeptSpans, Rows, installed_at, row_at, row_in}

abbrev pub HasEnded : Span → Type 0
HasEnded span = IsTrue (is_some span.ended)

abbrev pub AllEnded : List Span → Type 0
AllEnded [] = Unit {0}
AllEnded (span ∷ later) = HasEnded span × AllEnded later

-- the spans of a row at a time: only the last one may be held, and none was installed later
pub record AreBy (at : ℕ) (all : List Span) : Type 0 where
  pub ended : (front : List Span) (last : Span) → all ≡ front ++ last ∷ [] → AllEnded front
  pub times : All (λ span. span.installed ≤ at) all

-- ---- one row, whatever spans it had

abbrev pub IsKeptRow : ℕ → Columns Span → Columns Span → Type 0
IsKeptRow at old new = (all : List Span) → AreBy at all → IsThinned installed_at all old
    → IsThinned installed_at all new

abbrev pub IsTouched : ℕ → Option Turn → Columns Span → Columns Span → Type 0
IsTouched at t old new = (all : List Span) → AreBy at all → IsThinned installed_at all old
    → IsThinned installed_at (map (touched at t) all) new

-- a key came, and the one before it ended
abbrev pub IsGrownRow : Span → Columns Span → Columns Span → Type 0
IsGrownRow span old new = (all : List Span) → AreBy span.installed all → IsThinned installed_at all old
    → IsThinned installed_at (map (touched span.installed (Some (Ends Replaced))) all ++ span ∷ []) new

-- the last key is again what it was
abbrev pub GivesBack : Option Span → Columns Span → Columns Span → Type 0
GivesBack None old new = new ≡ old
GivesBack (Some span) old new = (front : List Span) (last : Span)
    → IsThinned installed_at (front ++ last ∷ []) old → span.installed ≡ last.installed
    → IsThinned installed_at (front ++ span ∷ []) new

-- the row of a station and number after a fact
abbrev pub IsRowAfter : ℕ → AssociationNumber → ℕ → Fact → Columns Span → Columns Span → Type 0
IsRowAfter s an at fact old new = (all : List Span) → AreBy at all → IsThinned installed_at all old
    → IsThinned installed_at (map (touched at (turn_by s an fact)) all ++ opened s an at fact) new

-- ---- the rows of one station

-- the key that a fact installs at its station
abbrev pub installs : ℕ → Fact → Option Span
installs at (shows.Installed s id an epoch sak) = Some (record {
  station = s;
  number = an;
  id = id;
  epoch = epoch;
  installed = at;
  began = None;
  relieved = None;
  ended = None;
})
installs at _ = None

pub record IsLaneAfter (s at : ℕ) (fact : Fact) (old new : Rows) : Type 0 where
  pub rows_are : (an : AssociationNumber) → IsRowAfter s an at fact (row_in old an) (row_in new an)

pub record IsLaneKept (at : ℕ) (old new : Rows) : Type 0 where
  pub rows_are : (an : AssociationNumber) → IsKeptRow at (row_in old an) (row_in new an)

-- what happened to the row of a number, and the others are as they were
abbrev pub IsOnly : AssociationNumber → (Columns Span → Columns Span → Type 0) → Rows → Rows → Type 0
IsOnly An0 P old new = P old.an0 new.an0 × (new ≡ record old { an0 = new.an0 })
IsOnly An1 P old new = P old.an1 new.an1 × (new ≡ record old { an1 = new.an1 })
IsOnly An2 P old new = P old.an2 new.an2 × (new ≡ record old { an2 = new.an2 })
IsOnly An3 P old new = P old.an3 new.an3 × (new ≡ record old { an3 = new.an3 })

-- ---- the rows of all stations

pub record IsFactTaken (fact : Fact) (old new : KeptSpans) : Type 0 where
  pub clock_is : new.clock ≡ clock_after old.clock fact
  pub rows_are : (s : ℕ) (an : AssociationNumber)
      → IsRowAfter s an old.clock.ticks fact (row_at old.lanes s an) (row_at new.lanes s an)

-- rows of nothing may have come
pub record IsReached (old new : KeptSpans) : Type 0 where
  pub clock_is : new.clock ≡ old.clock
  pub rows_are : (s : ℕ) (an : AssociationNumber) → row_at new.lanes s an ≡ row_at old.lanes s an

-- a station without rows installs nothing
abbrev pub IsPlaced : Fact → KeptSpans → Type 0
IsPlaced fact kept = slice_get kept.lanes (place fact) ≡ None → installs 0 fact ≡ None

-- the spans are those of before
pub record IsKept (old new : KeptSpans) : Type 0 where
  pub clock_is : new.clock ≡ old.clock
  pub rows_are : (s : ℕ) (an : AssociationNumber)
      → IsKeptRow old.clock.ticks (row_at old.lanes s an) (row_at new.lanes s an)

-- the rows of the station that shows a fact became those after it, and the others are as they were
pub record IsTakenAt (fact : Fact) (old new : KeptSpans) (rows : Rows) : Type 0 where
  pub then : Rows
  pub lane : IsLaneAfter (place fact) old.clock.ticks fact rows then
  pub clock_is : new.clock ≡ old.clock
  pub here : slice_get new.lanes (place fact) ≡ Some then
  pub others : (t : ℕ) → t ≢ place fact → slice_get new.lanes t ≡ slice_get old.lanes t

abbrev pub TakesAt : Fact → KeptSpans → KeptSpans → Option Rows → Result (Unit {0}) AllocError → Type 0
TakesAt fact old new None result = (new ≡ old) × (is_ok result ≡ true)
TakesAt fact old new (Some rows) (Ok done) = IsTakenAt fact old new rows
TakesAt fact old new (Some rows) (Err error) = IsKept old new
