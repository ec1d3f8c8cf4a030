-- The stations of the groups of a twin run: those of the second are some of the first.
use Rattle.std.proofs.Common.{◌≡◌, ◌≢◌, ◌<◌, ◌++◌, ℕ, zero, suc, Bool, true, false, List, []}
use Rattle.std.proofs.Common.{◌∷◌, map, cond, length, arith}
use Rattle.std.proofs.Common.{Option, Some, None, refl, sym, ap, ◌∙◌, subst}
use Rattle.std.specs.Prelude.{◌==◌, slice_get, option_map, option_to_list, All}
use Rattle.std.proofs.lemmas.List.Elements.{All-head, All-tail, All-weaker}
use Rattle.lan_base.specs.declared.frame.UserFrame.{UserFrame}
use Rattle.lan_base.specs.Differing.{AllDiffer, DiffersFrom}
use Rattle.lan_core.specs.declared.event.Event.{Event}
use Rattle.lan_core.specs.declared.event.Event.TheVariants as events
use Rattle.lan_core.specs.Run.{Run, Profile, started, stations}
use Rattle.cak_roll.specs.declared.event.GroupNumber.{GroupNumber}
use Rattle.cak_roll.specs.declared.event.GroupNumber.TheVariants.{First, Second}
use Rattle.cak_roll.specs.declared.event.TwinEvent.{TwinEvent}
use Rattle.cak_roll.specs.declared.event.TwinEvent.TheVariants as twins
use Rattle.cak_roll.specs.Twin.{Pair, Twin, TwinHappening, part_of, run_of, adopters, adopted_by}
use Rattle.cak_roll.specs.Twin.{events_of, events_in, start_of, only, same_group}
use Rattle.cak_roll.specs.Twin.{place_in, next_in, claimed_in, takes_part, carrier}
use Rattle.cak_roll.specs.Twin.{MayComeTwin, IsTwinStep, IsTwinRun}
use Rattle.cak_roll.proofs.Adopted.{map-over, joined-more, joined-one}

-- ---- stations of a part

append-over : {A : Type 0} (xs ys zs : List A) → (xs ++ ys) ++ zs ≡ xs ++ (ys ++ zs)
append-over [] ys zs = refl
append-over (x ∷ xs) ys zs = ap (λ w. x ∷ w) (append-over xs ys zs)

append-none : {A : Type 0} (xs : List A) → xs ++ [] ≡ xs
append-none [] = refl
append-none (x ∷ xs) = ap (λ ys. x ∷ ys) (append-none xs)

-- the stations that events start, oldest first
abbrev starts_of : List Event → List Profile
starts_of [] = []
starts_of (e ∷ es) = starts_of es ++ started e

part-stations : (ys r : Run) → stations (ys ++ r) ≡ stations r ++ starts_of (events_of ys)
unfolding stations
part-stations [] r = sym (append-none (stations r))
part-stations (y ∷ ys) r =
    ap (λ ps. ps ++ started y.event) (part-stations ys r)
    ∙ append-over (stations r) (starts_of (events_of ys)) (started y.event)

only-none : (b : Bool) (e : Event) → started e ≡ [] → starts_of (only b (e ∷ [])) ≡ []
only-none true e none = none
only-none false e none = refl

sent-none : (b c : Bool) (place user pn : ℕ)
    → starts_of (only b (cond c (events.Claim place user pn ∷ [])
    (events.Emit ∷ events.Claim place user pn ∷ []))) ≡ []
sent-none true true place user pn = refl
sent-none true false place user pn = refl
sent-none false c place user pn = refl

-- the stations that start in a group, and adopt the second
abbrev pub started_in : GroupNumber → Twin → TwinEvent → List Profile
started_in First t (twins.Start name sci priority) =
    record { name = name; sci = sci; priority = priority } ∷ []
started_in Second t (twins.Adopt station) =
    option_to_list (slice_get (stations (run_of First t)) station)
started_in g t _ = []

adopted-starts : (o : Option Profile)
    → starts_of (option_to_list (option_map start_of o)) ≡ option_to_list o
adopted-starts None = refl
adopted-starts (Some p) = refl

events-start : (pair : Pair) (g : GroupNumber) (t : Twin) (e : TwinEvent)
    → starts_of (events_in pair g t e) ≡ started_in g t e
events-start pair First t (twins.Start name sci priority) = refl
events-start pair Second t (twins.Start name sci priority) = refl
events-start pair First t (twins.Adopt station) = refl
events-start pair Second t (twins.Adopt station) =
    adopted-starts (slice_get (stations (run_of First t)) station)
events-start pair First t (twins.Leave station group) = refl
events-start pair Second t (twins.Leave station group) = refl
events-start pair First t (twins.Tick station group) =
    only-none (same_group group First)
    (events.Tick (place_in First station t) (next_in pair First station t)) refl
events-start pair Second t (twins.Tick station group) =
    only-none (same_group group Second)
    (events.Tick (place_in Second station t) (next_in pair Second station t)) refl
events-start pair First t (twins.Deliver group frame station) =
    only-none (same_group group First) (events.Deliver frame (place_in First station t)) refl
events-start pair Second t (twins.Deliver group frame station) =
    only-none (same_group group Second) (events.Deliver frame (place_in Second station t)) refl
events-start pair First t (twins.Restart station) =
    only-none (takes_part First station t) (events.Restart (place_in First station t)) refl
events-start pair Second t (twins.Restart station) =
    only-none (takes_part Second station t) (events.Restart (place_in Second station t)) refl
events-start pair First t (twins.Send station user) =
    sent-none (same_group (carrier pair station t) First) (claimed_in pair First station t == 0)
    (place_in First station t) user (claimed_in pair First station t)
events-start pair Second t (twins.Send station user) =
    sent-none (same_group (carrier pair station t) Second)
    (claimed_in pair Second station t == 0)
    (place_in Second station t) user (claimed_in pair Second station t)

pub stations-then : (pair : Pair) (users : List UserFrame) (x : TwinHappening) (t : Twin)
    (g : GroupNumber) → IsTwinStep pair users x t
    → stations (run_of g (x ∷ t)) ≡ stations (run_of g t) ++ started_in g t x.event
unfolding run_of
stations-then pair users x t g step =
    part-stations (part_of g x) (run_of g t)
    ∙ ap (λ es. stations (run_of g t) ++ starts_of es) (step.parts g).events
    ∙ ap (λ ps. stations (run_of g t) ++ ps) (events-start pair g t x.event)

-- ---- who is where

pub record IsJoined (firsts seconds : List Profile) (adopters : List ℕ) : Type 0 where
  pub joined : map Some seconds ≡ map (slice_get firsts) adopters
  pub names : AllDiffer (map (λ p. p.name) firsts)
  pub scis : AllDiffer (map (λ p. p.sci) firsts)

differs-end : {A : Type 0} (a : A) (xs : List A) (x : A) → DiffersFrom a xs → a ≢ x
    → DiffersFrom a (xs ++ x ∷ [])
differs-end a [] x d other = (other, tt)
differs-end a (y ∷ xs) x (d, more) other = (d, differs-end a xs x more other)

-- one more that differs from each
all-end : {A B : Type 0} (f : A → B) (xs : List A) (x : A) → AllDiffer (map f xs)
    → All (λ y. f y ≢ f x) xs → AllDiffer (map f (xs ++ x ∷ []))
all-end f [] x d other = (tt, tt)
all-end f (y ∷ xs) x (d, more) other = (
  subst (DiffersFrom (f y)) (sym (map-over f xs (x ∷ [])))
      (differs-end (f y) (map f xs) (f x) d (All-head (λ z. f z ≢ f x) y xs other)),
  all-end f xs x more (All-tail (λ z. f z ≢ f x) y xs other),
)

one-starts : (firsts seconds : List Profile) (ss : List ℕ) (p : Profile)
    → IsJoined firsts seconds ss
    → All (λ q. (q.name ≢ p.name) × (q.sci ≢ p.sci)) firsts
    → IsJoined (firsts ++ p ∷ []) (seconds ++ []) (ss ++ [])
one-starts firsts seconds ss p j fresh =
    subst (λ qs. IsJoined (firsts ++ p ∷ []) qs (ss ++ [])) (sym (append-none seconds))
    (subst (λ us. IsJoined (firsts ++ p ∷ []) seconds us) (sym (append-none ss)) (record {
      joined = joined-more firsts (p ∷ []) seconds ss j.joined;
      names = all-end (λ (q : Profile). q.name) firsts p j.names
          (All-weaker (λ (q : Profile). (q.name ≢ p.name) × (q.sci ≢ p.sci))
          (λ (q : Profile). q.name ≢ p.name) (λ q both. both.0) firsts fresh);
      scis = all-end (λ (q : Profile). q.sci) firsts p j.scis
          (All-weaker (λ (q : Profile). (q.name ≢ p.name) × (q.sci ≢ p.sci))
          (λ (q : Profile). q.sci ≢ p.sci) (λ q both. both.1) firsts fresh);
    }))

one-adopts : (firsts seconds : List Profile) (ss : List ℕ) (s : ℕ) (o : Option Profile)
    → slice_get firsts s ≡ o → (o ≡ None → ⊥) → IsJoined firsts seconds ss
    → IsJoined (firsts ++ []) (seconds ++ option_to_list o) (ss ++ s ∷ [])
one-adopts firsts seconds ss s None at there j = absurd (there refl)
one-adopts firsts seconds ss s (Some p) at there j =
    subst (λ ps. IsJoined ps (seconds ++ p ∷ []) (ss ++ s ∷ [])) (sym (append-none firsts))
    (record {
      joined = joined-one firsts seconds ss p s j.joined at;
      names = j.names;
      scis = j.scis;
    })

none-moves : (firsts seconds : List Profile) (ss : List ℕ) → IsJoined firsts seconds ss
    → IsJoined (firsts ++ []) (seconds ++ []) (ss ++ [])
none-moves firsts seconds ss j =
    subst (λ ps. IsJoined ps (seconds ++ []) (ss ++ [])) (sym (append-none firsts))
    (subst (λ qs. IsJoined firsts qs (ss ++ [])) (sym (append-none seconds))
    (subst (λ us. IsJoined firsts seconds us) (sym (append-none ss)) j))

pub get-there : {A : Type 0} (xs : List A) (s : ℕ) → s < length xs → slice_get xs s ≡ None → ⊥
get-there [] s less none = absurd (omega (arith, less))
get-there (x ∷ xs) zero less none = cc none
get-there (x ∷ xs) (suc s) less none = get-there xs s (omega (arith, less)) none

joined-then : (users : List UserFrame) (t : Twin) (e : TwinEvent) → MayComeTwin users t e
    → IsJoined (stations (run_of First t)) (stations (run_of Second t)) (adopters t)
    → IsJoined (stations (run_of First t) ++ started_in First t e)
    (stations (run_of Second t) ++ started_in Second t e) (adopters t ++ adopted_by e)
joined-then users t (twins.Start name sci priority) may j =
    one-starts (stations (run_of First t)) (stations (run_of Second t)) (adopters t)
    (record { name = name; sci = sci; priority = priority }) j may
joined-then users t (twins.Adopt station) may j =
    one-adopts (stations (run_of First t)) (stations (run_of Second t)) (adopters t) station
    (slice_get (stations (run_of First t)) station) refl
    (get-there (stations (run_of First t)) station may.0) j
joined-then users t (twins.Leave station group) may j =
    none-moves (stations (run_of First t)) (stations (run_of Second t)) (adopters t) j
joined-then users t (twins.Tick station group) may j =
    none-moves (stations (run_of First t)) (stations (run_of Second t)) (adopters t) j
joined-then users t (twins.Deliver group frame station) may j =
    none-moves (stations (run_of First t)) (stations (run_of Second t)) (adopters t) j
joined-then users t (twins.Restart station) may j =
    none-moves (stations (run_of First t)) (stations (run_of Second t)) (adopters t) j
joined-then users t (twins.Send station user) may j =
    none-moves (stations (run_of First t)) (stations (run_of Second t)) (adopters t) j

pub joined-run : (pair : Pair) (users : List UserFrame) (t : Twin) → IsTwinRun pair users t
    → IsJoined (stations (run_of First t)) (stations (run_of Second t)) (adopters t)
unfolding run_of stations adopters
joined-run pair users [] run = record { joined = refl; names = tt; scis = tt }
joined-run pair users (x ∷ t) (step, before) =
    let j = joined-then users t x.event step.may_come (joined-run pair users t before) in
    subst (λ ps. IsJoined ps (stations (run_of Second (x ∷ t))) (adopters (x ∷ t)))
    (sym (stations-then pair users x t First step))
    (subst (λ qs. IsJoined (stations (run_of First t) ++ started_in First t x.event) qs
    (adopters t ++ adopted_by x.event)) (sym (stations-then pair users x t Second step)) j)
