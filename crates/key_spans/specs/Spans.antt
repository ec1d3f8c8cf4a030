-- The spans of the keys that facts tell of (this profile's own rule): each install of a station under
-- an association number begins one, and the facts after it say what became of it.
use Rattle.std.specs.Prelude.{ℕ, ◌+◌, ◌==◌, ◌&&◌, Bool, false, if◌then◌else◌, min, is_some, List, [], ◌∷◌, ◌++◌, map, Option, Some, None}
use Rattle.std.specs.Option.{option_or}
use Rattle.lan_base.specs.AssociationNumbers.{same_an}
use Rattle.lan_base.specs.declared.association_number.AssociationNumber.{AssociationNumber}
use Rattle.lan_core.specs.declared.fact.Fact.{Fact}
use Rattle.lan_core.specs.declared.fact.Fact.TheVariants as shows
use Rattle.transcript_reader.specs.Time.{moves, own_after}
use Rattle.key_spans.specs.declared.clock.Clock.{Clock}
use Rattle.key_spans.specs.declared.span.Span.{Span}
use Rattle.key_spans.specs.declared.span.Turn.{Turn}
use Rattle.key_spans.specs.declared.span.Turn.TheVariants.{Ends, Begins, Relieves}
use Rattle.key_spans.specs.declared.span.Why.TheVariants.{Replaced, Retired, Dropped, Restarted}

-- ---- time

-- no time went by
abbrev pub start : Clock
start = record { ticks = 0; own = false }

-- so many ticks, and one more where time moves on, as far as 32 bits count
abbrev pub ticks_after : ℕ → Bool → ℕ
ticks_after ticks moves = if moves then min (ticks + 1) 4294967295 else ticks

-- the clock after a fact more
abbrev pub clock_after : Clock → Fact → Clock
clock_after at fact = record { ticks = ticks_after at.ticks (moves at.own fact); own = own_after at.own fact }

-- the clock after facts, the first one first
abbrev pub clock : Clock → List Fact → Clock
clock at [] = at
clock at (fact ∷ later) = clock (clock_after at fact) later

-- ---- what a fact is to a key that station s holds under a number

abbrev pub turn_by : ℕ → AssociationNumber → Fact → Option Turn
turn_by s an (shows.Installed t id a epoch sak) =
    if (t == s) && same_an a an then Some (Ends Replaced) else None
turn_by s an (shows.Retired t id a) = if (t == s) && same_an a an then Some (Ends Retired) else None
turn_by s an (shows.Dropped t id a) = if (t == s) && same_an a an then Some (Ends Dropped) else None
turn_by s an (shows.Life t mi) = if t == s then Some (Ends Restarted) else None
turn_by s an (shows.Began t id a epoch cause) =
    if t == s then Some (if same_an a an then Begins else Relieves) else None
turn_by s an _ = None

-- another key begins: it transmits no more, if it did
abbrev pub relieved_at : ℕ → Span → Span
relieved_at at span =
    if is_some span.began then record span { relieved = option_or span.relieved (Some at) } else span

abbrev pub turned : ℕ → Turn → Span → Span
turned at (Ends why) span = record span { ended = Some (record { at = at; why = why }) }
turned at Begins span = record span { began = option_or span.began (Some at) }
turned at Relieves span = relieved_at at span

-- a key after a fact that comes at this time: one that has ended stays as it is
abbrev pub touched : ℕ → Option Turn → Span → Span
touched at None span = span
touched at (Some t) span = if is_some span.ended then span else turned at t span

-- ---- spans

-- the key that a fact installs at station s under a number
abbrev pub opened : ℕ → AssociationNumber → ℕ → Fact → List Span
opened s an at (shows.Installed t id a epoch sak) =
    if (t == s) && same_an a an
    then record {
      station = t;
      number = a;
      id = id;
      epoch = epoch;
      installed = at;
      began = None;
      relieved = None;
      ended = None;
    } ∷ [] else []
opened s an at _ = []

-- what the facts after its install make of a key
abbrev pub lived : ℕ → AssociationNumber → Clock → List Fact → Span → Span
lived s an at [] span = span
lived s an at (fact ∷ later) span =
    lived s an (clock_after at fact) later (touched at.ticks (turn_by s an fact) span)

-- the keys of station s under a number, the earliest first, where the clock began so
abbrev pub spans_from : ℕ → AssociationNumber → Clock → List Fact → List Span
spans_from s an at [] = []
spans_from s an at (fact ∷ later) =
    map (lived s an (clock_after at fact) later) (opened s an at.ticks fact)
    ++ spans_from s an (clock_after at fact) later

abbrev pub spans : ℕ → AssociationNumber → List Fact → List Span
spans s an facts = spans_from s an start facts
