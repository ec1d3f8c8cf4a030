-- The cut of facts into events.
use Rattle.std.proofs.Common.{◌≡◌, Bool, true, false, List, [], ◌∷◌, ◌++◌, refl, ap, ◌∙◌}
use Rattle.std.specs.Prelude.{IsTrue, if◌then◌else◌}
use Rattle.std.specs.List.{All, flat_map}
use Rattle.std.proofs.lemmas.List.Elements.{All-cons, All-nil, All-head, All-tail}
use Rattle.lan_core.specs.declared.fact.Fact.{Fact}
use Rattle.transcript.specs.Cut.{is_first, IsEvent, before, cut}

abbrev joined : List (List Fact) → List Fact
joined events = flat_map (λ event. event) events

choose_joined : (b : Bool) (fact next : Fact) (others : List Fact) (events : List (List Fact))
    → joined (if b then (fact ∷ []) ∷ (next ∷ others) ∷ events else (fact ∷ next ∷ others) ∷ events) ≡ fact ∷ joined ((next ∷ others) ∷ events)
choose_joined true fact next others events = refl
choose_joined false fact next others events = refl

before_joined : (fact : Fact) (events : List (List Fact)) → joined (before fact events) ≡ fact ∷ joined events
before_joined fact [] = refl
before_joined fact ([] ∷ events) = refl
before_joined fact ((next ∷ others) ∷ events) = choose_joined (is_first next) fact next others events

pub whole : (facts : List Fact) → joined (cut facts) ≡ facts
whole [] = refl
whole (fact ∷ facts) = before_joined fact (cut facts) ∙ ap (λ fs. fact ∷ fs) (whole facts)

-- events, the first of which may lack its first fact
abbrev IsRest : List Fact → Type 0
IsRest facts = All (λ fact. is_first fact ≡ false) facts

abbrev AreEvents : List (List Fact) → Type 0
AreEvents [] = Unit {0}
AreEvents (event ∷ events) = IsEvent event × AreEvents events

-- the first of these begins an event or belongs to one that began before
abbrev Begun : List (List Fact) → Type 0
Begun [] = Unit {0}
Begun ([] ∷ events) = ⊥
Begun ((fact ∷ others) ∷ events) = IsRest others × AreEvents events

chosen_begun : (b : Bool) (fact next : Fact) (others : List Fact) (events : List (List Fact)) → is_first next ≡ b → IsRest others → AreEvents events
    → Begun (if b then (fact ∷ []) ∷ (next ∷ others) ∷ events else (fact ∷ next ∷ others) ∷ events)
chosen_begun true fact next others events e rest are =
    (All-nil (λ other. is_first other ≡ false), ((e, rest), are))
chosen_begun false fact next others events e rest are =
    (All-cons (λ other. is_first other ≡ false) next others e rest, are)

before_begun : (fact : Fact) (events : List (List Fact)) → Begun events → Begun (before fact events)
before_begun fact [] h = (All-nil (λ other. is_first other ≡ false), tt)
before_begun fact ([] ∷ events) h = absurd h
before_begun fact ((next ∷ others) ∷ events) h = chosen_begun (is_first next) fact next others events refl h.0 h.1

begun : (facts : List Fact) → Begun (cut facts)
begun [] = tt
begun (fact ∷ facts) = before_begun fact (cut facts) (begun facts)

all_events : (events : List (List Fact)) → AreEvents events → All IsEvent events
all_events [] are = All-nil IsEvent
all_events (event ∷ events) are = All-cons IsEvent event events are.0 (all_events events are.1)

chosen_events : (b : Bool) (fact next : Fact) (others : List Fact) (events : List (List Fact)) → is_first next ≡ b → IsTrue (is_first fact)
    → IsRest others → AreEvents events
    → AreEvents (if b then (fact ∷ []) ∷ (next ∷ others) ∷ events else (fact ∷ next ∷ others) ∷ events)
chosen_events true fact next others events e first rest are =
    ((first, All-nil (λ other. is_first other ≡ false)), ((e, rest), are))
chosen_events false fact next others events e first rest are =
    ((first, All-cons (λ other. is_first other ≡ false) next others e rest), are)

before_events : (fact : Fact) (events : List (List Fact)) → IsTrue (is_first fact) → Begun events → AreEvents (before fact events)
before_events fact [] first h = ((first, All-nil (λ other. is_first other ≡ false)), tt)
before_events fact ([] ∷ events) first h = absurd h
before_events fact ((next ∷ others) ∷ events) first h = chosen_events (is_first next) fact next others events refl first h.0 h.1

pub events : (fact : Fact) (facts : List Fact) → IsTrue (is_first fact) → All IsEvent (cut (fact ∷ facts))
events fact facts first = all_events (cut (fact ∷ facts)) (before_events fact (cut facts) first (begun facts))

lone : (fact : Fact) (events : List (List Fact)) → AreEvents events → before fact events ≡ (fact ∷ []) ∷ events
lone fact [] are = refl
lone fact ([] ∷ others) are = absurd are.0
lone fact ((next ∷ others) ∷ following) are = rw are.0.0 refl

-- an event's further facts, before events
rest_cut : (fact : Fact) (others : List Fact) (facts : List Fact) → IsRest others → AreEvents (cut facts)
    → cut (fact ∷ others ++ facts) ≡ (fact ∷ others) ∷ cut facts
rest_cut fact [] facts rest are = lone fact (cut facts) are
rest_cut fact (next ∷ others) facts rest are =
    ap (before fact) (rest_cut next others facts (All-tail (λ other. is_first other ≡ false) next others rest) are)
    ∙ rw (All-head (λ other. is_first other ≡ false) next others rest) refl

again_are : (events : List (List Fact)) → All IsEvent events → (cut (joined events) ≡ events) × AreEvents events
again_are [] all = (refl, tt)
again_are ([] ∷ events) all = absurd (All-head IsEvent [] events all)
again_are ((fact ∷ others) ∷ events) all =
    let head = All-head IsEvent (fact ∷ others) events all in
    let tail = again_are events (All-tail IsEvent (fact ∷ others) events all) in
    let are : AreEvents (cut (joined events)) = rw tail.0 tail.1 in
    (rest_cut fact others (joined events) head.1 are ∙ ap (λ es. (fact ∷ others) ∷ es) tail.0, (head, tail.1))

pub again : (events : List (List Fact)) → All IsEvent events → cut (joined events) ≡ events
again events all = (again_are events all).0
