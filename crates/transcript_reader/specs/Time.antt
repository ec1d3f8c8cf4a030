-- When time moves on in a transcript (this profile's own rule): at each tick of the first station. Where it
-- takes part in both groups, its tick in the second comes behind that in the first, and is the same moment.
use Rattle.std.specs.Prelude.{ℕ, ◌+◌, ◌==◌, ◌&&◌, ◌||◌, Bool, false, not, if◌then◌else◌, List, [], ◌∷◌}
use Rattle.lan_core.specs.declared.fact.Fact.{Fact}
use Rattle.lan_core.specs.declared.fact.Fact.TheVariants.{Ticked}
use Rattle.transcript.specs.Naming.{most_named}

-- whether a fact moves time on, by whether the last tick was the first station's own in the first group
abbrev pub moves : Bool → Fact → Bool
moves own (Ticked s at next) = (s == 0) || ((s == most_named) && not own)
moves own _ = false

-- whether the last tick was that behind a fact more
abbrev pub own_after : Bool → Fact → Bool
own_after own (Ticked s at next) = s == 0
own_after own _ = own

-- ---- facts one after another

abbrev pub own_from : Bool → List Fact → Bool
own_from own [] = own
own_from own (fact ∷ later) = own_from (own_after own fact) later

abbrev pub ticks_from : Bool → List Fact → ℕ
ticks_from own [] = 0
ticks_from own (fact ∷ later) = (if moves own fact then 1 else 0) + ticks_from (own_after own fact) later

-- whether the last tick of a transcript's facts was the first station's own in the first group
abbrev pub ticked : List Fact → Bool
ticked facts = own_from false facts

-- how often they move time on
abbrev pub ticks : List Fact → ℕ
ticks facts = ticks_from false facts
