-- Where the facts of an event end (this profile's own rule).
use Rattle.std.specs.Prelude.{◌≡◌, Bool, true, false, if◌then◌else◌, List, [], ◌∷◌, IsTrue}
use Rattle.std.specs.List.{All}
use Rattle.lan_core.specs.declared.fact.Fact.{Fact}
use Rattle.lan_core.specs.declared.fact.Fact.TheVariants.{Life, Ticked, Framed, HeardMka, Claimed, Unclaimed, Arrived}

-- whether a fact is the first of its event: a life, a tick, a frame that is answered, a packet
-- number that is claimed or is wanting, or a protected frame that is put on the air
abbrev pub is_first : Fact → Bool
is_first (Life s mi) = true
is_first (Ticked s at next) = true
is_first (HeardMka k s verdict) = true
is_first (Arrived k s arrival) = true
is_first (Claimed s an epoch pn) = true
is_first (Unclaimed s why) = true
is_first (Framed k s sec xs) = sec
is_first _ = false

-- facts of one event: the first is a first one, and no other is
abbrev pub IsEvent : List Fact → Type 0
IsEvent [] = ⊥
IsEvent (fact ∷ others) = IsTrue (is_first fact) × All (λ other. is_first other ≡ false) others

-- a fact before events: it joins the facts that begin none
abbrev pub before : Fact → List (List Fact) → List (List Fact)
before fact [] = (fact ∷ []) ∷ []
before fact ([] ∷ events) = (fact ∷ []) ∷ events
before fact ((next ∷ others) ∷ events) =
    if is_first next then (fact ∷ []) ∷ (next ∷ others) ∷ events
    else (fact ∷ next ∷ others) ∷ events

-- the facts, event by event
abbrev pub cut : List Fact → List (List Fact)
cut [] = []
cut (fact ∷ facts) = before fact (cut facts)
