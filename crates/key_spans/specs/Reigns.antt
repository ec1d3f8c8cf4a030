-- When a station serves (IEEE Std 802.1X, 9.5: the key server that it elects is the station itself): a reign begins as it elects the member of its
-- own life, and is over at its next election, and as it begins another life.
use Rattle.std.specs.Prelude.{ℕ, ◌==◌, ◌&&◌, Bool, false, if◌then◌else◌, List, [], ◌∷◌, ◌++◌, map, Option, Some, None}
use Rattle.std.specs.Option.{option_or}
use Rattle.lan_base.specs.Identifiers.{same_mi}
use Rattle.lan_base.specs.declared.address.Mi.{Mi}
use Rattle.lan_core.specs.declared.fact.Fact.{Fact}
use Rattle.lan_core.specs.declared.fact.Fact.TheVariants as shows
use Rattle.key_spans.specs.declared.clock.Clock.{Clock}
use Rattle.key_spans.specs.declared.reign.Reign.{Reign}
use Rattle.key_spans.specs.Spans.{clock_after, start}

-- the member of a station's life, behind a fact more
abbrev pub member_after : ℕ → Option Mi → Fact → Option Mi
member_after s own (shows.Life t mi) = if t == s then Some mi else own
member_after s own _ = own

-- that behind facts
abbrev pub member_from : ℕ → Option Mi → List Fact → Option Mi
member_from s own [] = own
member_from s own (fact ∷ later) = member_from s (member_after s own fact) later

-- whether both are there, and one
abbrev pub is_own : Option Mi → Option Mi → Bool
is_own None server = false
is_own (Some own) None = false
is_own (Some own) (Some server) = same_mi server own

-- a reign of station s is over, if there was one
abbrev pub is_over_by : ℕ → Fact → Bool
is_over_by s (shows.Life t mi) = t == s
is_over_by s (shows.Server t mi) = t == s
is_over_by s _ = false

-- one begins, in this life
abbrev pub is_begun_by : ℕ → Option Mi → Fact → Bool
is_begun_by s own (shows.Server t mi) = (t == s) && is_own own mi
is_begun_by s own _ = false

-- the reign that begins at this time, if one does
abbrev pub crowned : ℕ → Bool → List Reign
crowned at begins = if begins then record { from = at; to = None } ∷ [] else []

-- the reign that a fact of this time begins
abbrev pub begun : ℕ → Option Mi → ℕ → Fact → List Reign
begun s own at fact = crowned at (is_begun_by s own fact)

-- a reign after a fact of this time
abbrev pub ruled : ℕ → Bool → Reign → Reign
ruled at over reign = if over then record reign { to = option_or reign.to (Some at) } else reign

-- what the facts after its begin make of a reign
abbrev pub ruled_from : ℕ → Clock → List Fact → Reign → Reign
ruled_from s at [] reign = reign
ruled_from s at (fact ∷ later) reign =
    ruled_from s (clock_after at fact) later (ruled at.ticks (is_over_by s fact) reign)

-- the reigns of station s, the earliest first, where the clock began so and its life had this member
abbrev pub reigns_from : ℕ → Option Mi → Clock → List Fact → List Reign
reigns_from s own at [] = []
reigns_from s own at (fact ∷ later) =
    map (ruled_from s (clock_after at fact) later) (begun s own at.ticks fact)
    ++ reigns_from s (member_after s own fact) (clock_after at fact) later

abbrev pub reigns : ℕ → List Fact → List Reign
reigns s facts = reigns_from s None start facts
