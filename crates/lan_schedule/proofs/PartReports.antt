-- What a part shows in which no station starts is told under the same names.
use Rattle.std.proofs.Common.{◌≡◌, ℕ, Bool, true, List, [], ◌∷◌, ◌++◌, map, refl, sym, ap}
use Rattle.std.proofs.Common.{◌∙◌, append_assoc, append-nil, inl, inr, subst}
use Rattle.std.specs.Prelude.{cond, not}
use Rattle.std.specs.List.{AllByRecursion}
use Rattle.std.proofs.lemmas.Bool.{cases_Bool}
use Rattle.lan_base.specs.declared.frame.UserFrame.{UserFrame}
use Rattle.lan_core.specs.declared.event.Event.{Event}
use Rattle.lan_core.specs.declared.event.Event.TheVariants as events
use Rattle.lan_core.specs.declared.fact.Fact.{Fact}
use Rattle.lan_core.specs.declared.settings.Settings.{Settings}
use Rattle.lan_core.specs.Parts.{followed_by, is_claim, without_claims}
use Rattle.lan_core.specs.Run.{Happening, Profile, Run, started, stations}
use Rattle.worker_races.specs.declared.merge.step.Step.{Step}
use Rattle.worker_races.specs.merge.Table.{Controls}
use Rattle.worker_races.proofs.Public.{starts-none}
use Rattle.worker_races.specs.Performed.{ArePerformed, happenings}
use Rattle.trace_acts.specs.Names.{names_of}
use Rattle.lan_schedule.specs.Reports.{Report, reports}
use Rattle.lan_schedule.specs.inside.Weaves.{reports_with}

-- the facts of events
abbrev pub facts_by : List Happening → List (List Fact)
facts_by part = map (λ (h : Happening). h.facts) part

-- no station starts in an event
abbrev pub StartsNone : Happening → Type 0
StartsNone h = started h.event ≡ []

names-stay-one : (x : Happening) (r : Run) → StartsNone x → names_of (x ∷ r) ≡ names_of r
unfolding stations
names-stay-one x r none =
    ap (λ (more : List Profile). map (λ (p : Profile). p.name) (stations r ++ more)) none
    ∙ ap (λ (all : List Profile). map (λ (p : Profile). p.name) all) (append-nil (stations r))

pub names-stay : (part : List Happening) (r : Run) → AllByRecursion StartsNone part
    → names_of (followed_by part r) ≡ names_of r
names-stay [] r none = refl
names-stay (x ∷ part) r none = names-stay part (x ∷ r) none.1 ∙ names-stay-one x r none.0

pub reports-part : (part : List Happening) (r : Run) → AllByRecursion StartsNone part
    → reports (followed_by part r) ≡ reports r ++ reports_with (names_of r) (facts_by part)
reports-part [] r none = sym (append-nil (reports r))
reports-part (x ∷ part) r none =
    reports-part part (x ∷ r) none.1
    ∙ ap (λ (names : List (List ℕ)). (reports r ++ record { names = names; facts = x.facts } ∷ [])
    ++ reports_with names (facts_by part)) (names-stay-one x r none.0)
    ∙ append_assoc (reports r) (record { names = names_of r; facts = x.facts } ∷ [])
    (reports_with (names_of r) (facts_by part))

-- ---- what holds of control's events and of claims holds of a part that is woven of them

pub all-woven : (P : Happening → Type 0) (part : List Happening)
    → AllByRecursion P (without_claims part) → ((h : Happening) → is_claim h.event ≡ true → P h)
    → AllByRecursion P part
all-woven P [] steps claims = tt
all-woven P (x ∷ part) steps claims = elim (cases_Bool (is_claim x.event)) [
  | inl claim ↦ (let later : AllByRecursion P (without_claims part) =
      subst (λ (b : Bool). AllByRecursion P (cond (not b) (x ∷ without_claims part)
      (without_claims part))) claim steps in
      (claims x claim, all-woven P part later claims))
  | inr other ↦ (let here : AllByRecursion P (x ∷ without_claims part) =
      subst (λ (b : Bool). AllByRecursion P (cond (not b) (x ∷ without_claims part)
      (without_claims part))) other steps in
      (here.0, all-woven P part here.1 claims))
]

pub claim-starts-none : (e : Event) → is_claim e ≡ true → started e ≡ []
claim-starts-none (events.Claim s user pn) claim = refl
claim-starts-none (events.Start name sci priority) claim = absurd (cc claim)
claim-starts-none (events.Tick s next) claim = refl
claim-starts-none (events.Deliver frame s) claim = refl
claim-starts-none (events.Restart s) claim = refl
claim-starts-none events.Emit claim = refl
claim-starts-none (events.Inject s octets) claim = refl

-- control starts no station
pub performed-start-none : (settings : Settings) (users : List UserFrame) (r : Run)
    (performed : Controls) (steps : List Step) → ArePerformed settings users r performed steps
    → AllByRecursion StartsNone (happenings performed)
performed-start-none settings users r [] [] are = tt
performed-start-none settings users r [] (kept ∷ steps) are = tt
performed-start-none settings users r (p ∷ performed) [] are = absurd are
performed-start-none settings users r ((s, x) ∷ performed) (kept ∷ steps) are = (
  starts-none s x.event are.0.own,
  performed-start-none settings users (x ∷ r) performed steps are.1,
)

pub woven-start-none : (part steps : List Happening) → without_claims part ≡ steps
    → AllByRecursion StartsNone steps → AllByRecursion StartsNone part
woven-start-none part steps is none =
    all-woven StartsNone part (subst (AllByRecursion StartsNone) (sym is) none)
    (λ h claim. claim-starts-none h.event claim)

-- ---- what was told

-- lists that go on equally from equal lists are equal
pub same-rest : {A : Type 0} (front xs ys : List A) → front ++ xs ≡ front ++ ys → xs ≡ ys
same-rest [] xs ys is = is
same-rest (a ∷ front) xs ys is = same-rest front xs ys (cc is)

pub facts-with : (names : List (List ℕ)) (shown : List (List Fact))
    → map (λ (report : Report). report.facts) (reports_with names shown) ≡ shown
facts-with names [] = refl
facts-with names (facts ∷ shown) = ap (λ (l : List (List Fact)). facts ∷ l) (facts-with names shown)

-- reports that were told since a run are those of its part
pub told-part : (part : List Happening) (r : Run) (told : List Report)
    → AllByRecursion StartsNone part → reports (followed_by part r) ≡ reports r ++ told
    → told ≡ reports_with (names_of r) (facts_by part)
told-part part r told none since =
    same-rest (reports r) told (reports_with (names_of r) (facts_by part))
    (sym since ∙ reports-part part r none)

pub told-facts : (part : List Happening) (r : Run) (told : List Report)
    → AllByRecursion StartsNone part → reports (followed_by part r) ≡ reports r ++ told
    → map (λ (report : Report). report.facts) told ≡ facts_by part
told-facts part r told none since =
    ap (λ (l : List Report). map (λ (report : Report). report.facts) l)
    (told-part part r told none since) ∙ facts-with (names_of r) (facts_by part)
