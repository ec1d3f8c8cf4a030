-- What a race shows, in the order of its events, and what of it is told.
use Rattle.std.specs.Prelude.{◌≡◌, ℕ, ◌==◌, if◌then◌else◌, List, [], ◌∷◌, ◌++◌, map}
use Rattle.std.specs.Prelude.{Option, Some, None}
use Rattle.lan_base.specs.declared.frame.Protected.{Protected}
use Rattle.lan_core.specs.declared.event.Event.{Event}
use Rattle.lan_core.specs.declared.event.Event.TheVariants as events
use Rattle.lan_core.specs.declared.fact.Fact.{Fact}
use Rattle.lan_core.specs.declared.fact.Fact.TheVariants as facts
use Rattle.lan_core.specs.declared.fact.Lack.TheVariants.{NoKey}
use Rattle.lan_base.specs.declared.sink.Unwritten.{Unwritten}
use Rattle.lan_base.specs.declared.sink.Unwritten.TheVariants.{Memory}
use Rattle.lan_schedule.specs.Reports.{Report}

-- ---- what is kept

-- what the oldest of events showed, and what the others did
abbrev pub first_kept : List (List Fact) → Option (List Fact)
first_kept [] = None
first_kept (shown ∷ later) = Some shown

abbrev pub rest_kept : List (List Fact) → List (List Fact)
rest_kept [] = []
rest_kept (shown ∷ later) = later

-- a report is kept without its names
abbrev pub KeepsReport : List (List Fact) → Report → List (List Fact) → Type 0
KeepsReport old report new = new ≡ old ++ report.facts ∷ []

-- one is kept no more, for want of memory alone
abbrev pub KeepsNoMore : List (List Fact) → Report → List (List Fact) → Unwritten → Type 0
KeepsNoMore old report new why = why ≡ Memory

-- ---- the order of a race

-- what a claim shows for which a frame was protected
abbrev pub claimed_by : List Protected → List Fact
claimed_by [] = []
claimed_by (p ∷ frames) = facts.Claimed p.station p.an p.epoch p.pn ∷ []

-- what a claim shows: the number that the next frame was protected under, or that no key transmits
abbrev pub claim_shown : ℕ → ℕ → List Protected → List Fact
claim_shown s pn frames = if pn == 0 then facts.Unclaimed s NoKey ∷ [] else claimed_by frames

abbrev pub without_first : List Protected → List Protected
without_first [] = []
without_first (p ∷ frames) = frames

-- what an event of a race shows: a claim by its frame, and one of control what was kept of it next
abbrev pub shown_of : Event → List (List Fact) → List Protected → List Fact
shown_of (events.Claim s user pn) kept frames = claim_shown s pn frames
shown_of _ [] frames = []
shown_of _ (shown ∷ later) frames = shown

-- what is left of what was kept, and of the frames
abbrev pub kept_behind : Event → List (List Fact) → List (List Fact)
kept_behind (events.Claim s user pn) kept = kept
kept_behind _ kept = rest_kept kept

abbrev pub frames_behind : Event → List Protected → List Protected
frames_behind (events.Claim s user pn) frames = if pn == 0 then frames else without_first frames
frames_behind _ frames = frames

-- what all events of a race show
unfoldable pub shown_in : List Event → List (List Fact) → List Protected → List (List Fact)
shown_in [] kept frames = []
shown_in (event ∷ later) kept frames =
    shown_of event kept frames
    ∷ shown_in later (kept_behind event kept) (frames_behind event frames)

-- facts, and then those that events show
abbrev pub facts_in : List Fact → List (List Fact) → List Fact
facts_in before [] = before
facts_in before (shown ∷ later) = facts_in (before ++ shown) later

-- ---- what is told of it

-- the reports of what events showed, where the stations have these names
abbrev pub reports_with : List (List ℕ) → List (List Fact) → List Report
reports_with names shown = map (λ facts. record { names = names; facts = facts }) shown
