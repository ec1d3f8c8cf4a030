-- The packet numbers that a station claims under each association number, and the sends that are refused, as facts tell of
-- them. Of claims under one number those of one epoch are under one key.
use Rattle.std.specs.Prelude.{ℕ, ◌==◌, ◌&&◌, if◌then◌else◌, List, [], ◌∷◌, ◌++◌, Some, None}
use Rattle.lan_base.specs.AssociationNumbers.{same_an}
use Rattle.lan_base.specs.declared.association_number.AssociationNumber.{AssociationNumber}
use Rattle.lan_core.specs.declared.fact.Fact.{Fact}
use Rattle.lan_core.specs.declared.fact.Fact.TheVariants as shows
use Rattle.key_spans.specs.declared.claim.Attempt.{Attempt}
use Rattle.key_spans.specs.declared.clock.Clock.{Clock}
use Rattle.key_spans.specs.Spans.{clock_after, start}

-- the claim of station s under a number that a fact of this time tells
abbrev pub claimed : ℕ → AssociationNumber → ℕ → Fact → List Attempt
claimed s an at (shows.Claimed t a epoch pn) =
    if (t == s) && same_an a an then record { at = at; got = Some (record { epoch = epoch; pn = pn }) } ∷ [] else []
claimed s an at _ = []

-- the refused one
abbrev pub refused : ℕ → ℕ → Fact → List Attempt
refused s at (shows.Unclaimed t why) = if t == s then record { at = at; got = None } ∷ [] else []
refused s at _ = []

-- what each fact tells at its time, the earliest first
abbrev pub told : (ℕ → Fact → List Attempt) → Clock → List Fact → List Attempt
told tells at [] = []
told tells at (fact ∷ later) = tells at.ticks fact ++ told tells (clock_after at fact) later

abbrev pub claims : ℕ → AssociationNumber → List Fact → List Attempt
claims s an facts = told (claimed s an) start facts

abbrev pub refusals : ℕ → List Fact → List Attempt
refusals s facts = told (refused s) start facts
