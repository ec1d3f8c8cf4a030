-- When a station left one of two groups (this profile's own rule): it ticks in turn in each group in which it takes
-- part, so that between two ticks in one there is at most one in the other. Where more come, it left at its last tick.
use Rattle.std.specs.Prelude.{ℕ, ◌+◌, ◌==◌, ◌||◌, Bool, false, if◌then◌else◌, max, is_some, nat_lt, length, List, [], ◌∷◌, Option, Some, None}
use Rattle.std.specs.List.{filter}
use Rattle.std.specs.Option.{option_or}
use Rattle.lan_core.specs.declared.fact.Fact.{Fact}
use Rattle.lan_core.specs.declared.fact.Fact.TheVariants as shows
use Rattle.transcript.specs.Naming.{most_named}
use Rattle.key_spans.specs.declared.clock.Clock.{Clock}
use Rattle.key_spans.specs.declared.reign.Reign.{Reign}
use Rattle.key_spans.specs.declared.span.Span.{Span}
use Rattle.key_spans.specs.declared.span.Why.TheVariants.{Left}
use Rattle.key_spans.specs.Spans.{clock_after, start}

-- whether two places are those of one station in the two groups
abbrev pub are_of_one : ℕ → ℕ → Bool
are_of_one s t = (t + most_named == s) || (s + most_named == t)

-- a station ticks at its place, or begins a life there
abbrev pub is_there : ℕ → Fact → Bool
is_there s (shows.Life t mi) = t == s
is_there s (shows.Ticked t at next) = t == s
is_there s _ = false

-- it ticks in the other group
abbrev pub is_elsewhere : ℕ → Fact → Bool
is_elsewhere s (shows.Ticked t at next) = are_of_one s t
is_elsewhere s _ = false

-- when a station was there last, and the facts since then
pub record Stay : Type 0 where
  pub last : ℕ
  pub since : List Fact

abbrev pub stay_from : ℕ → Clock → List Fact → Option Stay
stay_from s at [] = None
stay_from s at (fact ∷ later) =
    option_or (stay_from s (clock_after at fact) later)
    (if is_there s fact then Some (record { last = (clock_after at fact).ticks; since = later }) else None)

-- when it left, by how often it ticked elsewhere since it was there
abbrev pub left_by : ℕ → Option Stay → Option ℕ
left_by s None = None
left_by s (Some stay) = if nat_lt 1 (length (filter (is_elsewhere s) stay.since)) then Some stay.last else None

-- when a station left its place, by all facts
abbrev pub left : ℕ → List Fact → Option ℕ
left s facts = left_by s (stay_from s start facts)

-- ---- what ends with it

-- a key that is held where its station left ends then, and not before its install
abbrev pub parted : Option ℕ → Span → Span
parted None span = span
parted (Some at) span =
    if is_some span.ended then span
    else record span { ended = Some (record { at = max at span.installed; why = Left }) }

-- where a reign is not over, its station serves no more from then on
abbrev pub resigned : Option ℕ → Reign → Reign
resigned None reign = reign
resigned (Some at) reign = record reign { to = option_or reign.to (Some (max at reign.from)) }
