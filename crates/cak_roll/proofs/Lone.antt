-- As long as nothing happened in the second group, its settings count for nothing.
use Rattle.std.proofs.Common.{◌≡◌, ◌==◌, ◌++◌, ℕ, Bool, true, false, List, [], ◌∷◌, cond, length}
use Rattle.std.proofs.Common.{◌&&◌, ◌⊎◌, inl, inr, refl, sym, ap, ◌∙◌, subst, arith}
use Rattle.std.specs.Prelude.{is_some, nat_lt, not}
use Rattle.std.proofs.lemmas.Bool.{le-ltb}
use Rattle.lan_base.specs.declared.frame.UserFrame.{UserFrame}
use Rattle.lan_core.specs.declared.event.Event.{Event}
use Rattle.lan_core.specs.declared.event.Event.TheVariants as events
use Rattle.lan_core.specs.declared.settings.Settings.{Settings}
use Rattle.lan_core.specs.Run.{stations}
use Rattle.lan_core.specs.Lives.{transmitting_at}
use Rattle.cak_roll.specs.declared.event.GroupNumber.{GroupNumber}
use Rattle.cak_roll.specs.declared.event.GroupNumber.TheVariants.{First, Second}
use Rattle.cak_roll.specs.declared.event.TwinEvent.{TwinEvent}
use Rattle.cak_roll.specs.declared.event.TwinEvent.TheVariants as twins
use Rattle.cak_roll.specs.Twin.{Pair, Twin, TwinHappening, run_of, only, same_group, IsTwinStep}
use Rattle.cak_roll.specs.Twin.{events_in, events_of, sent_as, takes_part, has_left, place_in}
use Rattle.cak_roll.specs.Twin.{carrier, next_in, claimed_in, AreSteps, IsPart}
use Rattle.cak_roll.specs.Twin.{IsTwinRun, MayComeTwin}
use Rattle.cak_roll.proofs.Sends.{none-there}

none-below : (n : ℕ) → nat_lt n 0 ≡ false
none-below n = le-ltb n 0 (omega arith)

absent : (s : ℕ) (t : Twin) → run_of Second t ≡ [] → takes_part Second s t ≡ false
unfolding stations
absent s t none =
    ap (λ r. nat_lt (place_in Second s t) (length (stations r)) && not (has_left Second s t)) none
    ∙ ap (λ b. b && not (has_left Second s t)) (none-below (place_in Second s t))

carrier-is : (pair : Pair) (s : ℕ) (t : Twin) → run_of Second t ≡ []
    → carrier pair s t ≡ cond (takes_part First s t) First Second
carrier-is pair s t none =
    ap (λ b. cond (b && is_some (transmitting_at pair.second (place_in Second s t) (run_of Second t)))
    Second (cond (takes_part First s t) First Second)) (absent s t none)

carrier-same : (pair other : Pair) (s : ℕ) (t : Twin) → run_of Second t ≡ []
    → carrier pair s t ≡ carrier other s t
carrier-same pair other s t none = carrier-is pair s t none ∙ sym (carrier-is other s t none)

first-same : (pair : Pair) (second : Settings) (t : Twin) (e : TwinEvent) → run_of Second t ≡ []
    → events_in pair First t e ≡ events_in (record pair { second = second }) First t e
first-same pair second t (twins.Start name sci priority) none = refl
first-same pair second t (twins.Adopt station) none = refl
first-same pair second t (twins.Leave station group) none = refl
first-same pair second t (twins.Tick station group) none = refl
first-same pair second t (twins.Deliver group frame station) none = refl
first-same pair second t (twins.Restart station) none = refl
first-same pair second t (twins.Send station user) none =
    ap (λ g. only (same_group g First)
    (sent_as (place_in First station t) user (claimed_in pair First station t)))
    (carrier-same pair (record pair { second = second }) station t none)

only-nothing : (b : Bool) (e f : Event) → only b (e ∷ []) ≡ [] → only b (f ∷ []) ≡ []
only-nothing true e f none = absurd (cc none)
only-nothing false e f none = refl

sent-nothing : (b : Bool) (s user pn pm : ℕ) → only b (sent_as s user pn) ≡ []
    → only b (sent_as s user pm) ≡ []
sent-nothing false s user pn pm none = refl
sent-nothing true s user pn pm none = absurd (some (pn == 0) none)
  where
    some : (c : Bool) → cond c (events.Claim s user pn ∷ [])
        (events.Emit ∷ events.Claim s user pn ∷ []) ≡ [] → ⊥
    some true none = cc none
    some false none = cc none

second-nothing : (pair : Pair) (second : Settings) (t : Twin) (e : TwinEvent) → run_of Second t ≡ []
    → events_in pair Second t e ≡ [] → events_in (record pair { second = second }) Second t e ≡ []
second-nothing pair second t (twins.Start name sci priority) none is = refl
second-nothing pair second t (twins.Adopt station) none is = is
second-nothing pair second t (twins.Leave station group) none is = refl
second-nothing pair second t (twins.Tick station group) none is =
    only-nothing (same_group group Second)
    (events.Tick (place_in Second station t) (next_in pair Second station t))
    (events.Tick (place_in Second station t)
    (next_in (record pair { second = second }) Second station t)) is
second-nothing pair second t (twins.Deliver group frame station) none is = is
second-nothing pair second t (twins.Restart station) none is = is
second-nothing pair second t (twins.Send station user) none is =
    ap (λ g. only (same_group g Second) (sent_as (place_in Second station t) user
    (claimed_in (record pair { second = second }) Second station t)))
    (sym (carrier-same pair (record pair { second = second }) station t none))
    ∙ sent-nothing (same_group (carrier pair station t) Second) (place_in Second station t) user
    (claimed_in pair Second station t)
    (claimed_in (record pair { second = second }) Second station t) is

both-nothing : {A : Type 0} (xs ys : List A) → xs ++ ys ≡ [] → (xs ≡ []) × (ys ≡ [])
both-nothing [] ys none = (refl, none)
both-nothing (x ∷ xs) ys none = absurd (cc none)

pub lone-run : (pair : Pair) (second : Settings) (users : List UserFrame) (t : Twin)
    → IsTwinRun pair users t → run_of Second t ≡ []
    → IsTwinRun (record pair { second = second }) users t
unfolding run_of
lone-run pair second users [] run none = tt
lone-run pair second users (x ∷ t) (step, before) none =
    let none-there = both-nothing x.second (run_of Second t) none in
    let other : Pair = record pair { second = second } in (
      record { may_come = step.may_come; parts = λ g. part none-there.0 none-there.1 g },
      lone-run pair second users t before none-there.1,
    )
  where
    part : x.second ≡ [] → run_of Second t ≡ [] → (g : GroupNumber)
        → IsPart (record pair { second = second }) users x t g
    part none rests First = record {
      events = (step.parts First).events ∙ first-same pair second t x.event rests;
      steps = (step.parts First).steps;
    }
    part none rests Second = record {
      events = ap events_of none
          ∙ sym (second-nothing pair second t x.event rests
          (sym (step.parts Second).events ∙ ap events_of none));
      steps = subst (λ ys. AreSteps second users ys (run_of Second t)) (sym none) tt;
    }

-- ---- nothing happens in the second group before an adoption

never-there : (s : ℕ) (t : Twin) → run_of Second t ≡ [] → takes_part Second s t ≡ true → ⊥
never-there s t none there = let bad : false ≡ true = sym (absent s t none) ∙ there in cc bad

who-sends : (s : ℕ) (t : Twin) → run_of Second t ≡ []
    → (takes_part First s t ≡ true) ⊎ (takes_part Second s t ≡ true) → takes_part First s t ≡ true
who-sends s t none (inl there) = there
who-sends s t none (inr there) = absurd (never-there s t none there)

pub lone-stays : (pair : Pair) (users : List UserFrame) (t : Twin) (e : TwinEvent)
    → MayComeTwin users t e → run_of Second t ≡ []
    → ((station : ℕ) → e ≡ twins.Adopt station → ⊥) → events_in pair Second t e ≡ []
lone-stays pair users t (twins.Start name sci priority) may none other = refl
lone-stays pair users t (twins.Adopt station) may none other = absurd (other station refl)
lone-stays pair users t (twins.Leave station group) may none other = refl
lone-stays pair users t (twins.Tick station First) may none other = refl
lone-stays pair users t (twins.Tick station Second) may none other =
    absurd (never-there station t none may)
lone-stays pair users t (twins.Deliver First frame station) may none other = refl
lone-stays pair users t (twins.Deliver Second frame station) may none other =
    absurd (never-there station t none may.0)
lone-stays pair users t (twins.Restart station) may none other =
    ap (λ b. only b (events.Restart (place_in Second station t) ∷ [])) (absent station t none)
lone-stays pair users t (twins.Send station user) may none other =
    ap (λ g. only (same_group g Second) (sent_as (place_in Second station t) user
    (claimed_in pair Second station t)))
    (carrier-is pair station t none
    ∙ ap (λ b. cond b First Second) (who-sends station t none may.0))

-- so the second group stays empty
pub lone-then : (pair : Pair) (users : List UserFrame) (x : TwinHappening) (t : Twin)
    → IsTwinStep pair users x t → run_of Second t ≡ []
    → ((station : ℕ) → x.event ≡ twins.Adopt station → ⊥) → run_of Second (x ∷ t) ≡ []
unfolding run_of
lone-then pair users x t step none other =
    let first = none-there x.second ((step.parts Second).events
    ∙ lone-stays pair users t x.event step.may_come none other) in
    ap (λ ys. ys ++ run_of Second t) first ∙ none
