-- The part that a race gives, which is woven of control and of the logs: the chance that it is woven so
-- makes it the run of the world behind the race, and what its events show is what it shows.
use Rattle.std.proofs.Common.{◌≡◌, ◌<◌, ◌≤◌, ◌^◌, ℕ, ◌+◌, ◌-◌, List, [], ◌∷◌}
use Rattle.std.proofs.Common.{length, map, refl, ap, ◌∙◌, subst, arith}
use Rattle.std.specs.List.{AllByRecursion}
use Rattle.std.proofs.lemmas.List.Elements.{recursion_from_All}
use Rattle.lan_base.specs.declared.association_number.AssociationNumber.{AssociationNumber}
use Rattle.lan_base.specs.declared.frame.UserFrame.{UserFrame}
use Rattle.data_workers.specs.declared.entry.Entry.{Entry}
use Rattle.lan_core.specs.declared.event.Event.{Event}
use Rattle.lan_core.specs.declared.event.Event.TheVariants as events
use Rattle.lan_core.specs.declared.settings.Settings.{Settings}
use Rattle.lan_core.specs.Expected.{last_number}
use Rattle.lan_core.specs.Claims.{next}
use Rattle.lan_core.specs.Ledgers.{claims}
use Rattle.lan_core.specs.Legal.{IsLegal, IsStepped, IsThrifty, unused}
use Rattle.lan_core.specs.Parts.{followed_by}
use Rattle.lan_core.specs.Run.{Happening, Run, facts_of, happened}
use Rattle.lan_core.specs.Standing.{State, StandsFor as GroupStandsFor}
use Rattle.worker_races.specs.declared.merge.step.Step.{Step}
use Rattle.worker_races.specs.merge.Merged.{entries_of, merged}
use Rattle.worker_races.specs.merge.Places.{Move}
use Rattle.worker_races.specs.merge.Raced.{IsRaced}
use Rattle.worker_races.specs.merge.Steps.{AreSteps, counted_from, logs_of}
use Rattle.worker_races.specs.merge.Taking.{frames_of}
use Rattle.worker_races.specs.merge.Weaving.{IsWoven, part_of}
use Rattle.worker_races.specs.Beside.{Race, WereBeside, ans_in, attempts_in, logs_in, moves_in}
use Rattle.worker_races.specs.Beside.{part_in, pointed_in}
use Rattle.worker_races.specs.Performed.{happenings}
use Rattle.worker_races.specs.Senders.{IsNew}
use Rattle.worker_races.proofs.Public.{told-front}
use Rattle.lan_schedule.specs.Races.{Chance, Claimed, Shown, Woven, behind_numbers, behind_woven}
use Rattle.lan_schedule.specs.Races.{woven_in}
use Rattle.lan_schedule.specs.Sound.{IsNeverSpent}
use Rattle.lan_schedule.specs.inside.Weaves.{facts_in, shown_in}
use Rattle.lan_schedule.proofs.Dealt.{claims-jobs}
use Rattle.lan_schedule.proofs.FewNext.{next-few}
use Rattle.lan_schedule.proofs.PartClaims.{HasRefused, are-plain, claims-numbered, part-unspent, refused-fewer}
use Rattle.lan_schedule.proofs.PartReports.{facts_by}
use Rattle.lan_schedule.proofs.PartShown.{woven-shown}
use Rattle.lan_schedule.proofs.WovenPart.{claimed_for, claims_of, front_by, front_of, rest_by, rest_of}

-- ---- the chance of merged events

-- events as claims see them
abbrev bare : List Event → List Happening
bare es = map (λ (e : Event). happened e []) es

-- how the claims of merged events are woven in between the others
abbrev pub claims_from : List Event → List (List Claimed)
claims_from es = claims_of 0 (bare es)

same-claim : (base user pn : ℕ) → claimed_for base (base + user) pn ≡ claimed_for 0 user pn
same-claim base user pn =
    let same : base + user - base - 1 ≡ user - 0 - 1 = omega arith in
    ap (λ (n : ℕ). record { worker = n; pn = pn }) same

front-same : (base : ℕ) (e : Event) (front : List Claimed)
    → front_by base (counted_from base e) front ≡ front_by 0 e front
front-same base (events.Claim s user pn) front =
    ap (λ (c : Claimed). c ∷ front) (same-claim base user pn)
front-same base (events.Start name sci priority) front = refl
front-same base (events.Tick s next) front = refl
front-same base (events.Deliver frame s) front = refl
front-same base (events.Restart s) front = refl
front-same base events.Emit front = refl
front-same base (events.Inject s octets) front = refl

rest-same : (base : ℕ) (e : Event) (front : List Claimed) (rest : List (List Claimed))
    → rest_by (counted_from base e) front rest ≡ rest_by e front rest
rest-same base (events.Claim s user pn) front rest = refl
rest-same base (events.Start name sci priority) front rest = refl
rest-same base (events.Tick s next) front rest = refl
rest-same base (events.Deliver frame s) front rest = refl
rest-same base (events.Restart s) front rest = refl
rest-same base events.Emit front rest = refl
rest-same base (events.Inject s octets) front rest = refl

fronts : (base : ℕ) (part : List Happening) (es : List Event)
    → map (λ (h : Happening). h.event) part ≡ map (counted_from base) es
    → (front_of base part ≡ front_of 0 (bare es)) × (rest_of base part ≡ rest_of 0 (bare es))
fronts base [] [] same = (refl, refl)
fronts base [] (e ∷ es) same = absurd (cc same)
fronts base (h ∷ part) [] same = absurd (cc same)
fronts base (h ∷ part) (e ∷ es) same =
    let front = told-front base h part e es same in
    let here = front.0 in
    let later = fronts base part es front.1 in (
      ap (λ (f : Event). front_by base f (front_of base part)) here
          ∙ front-same base e (front_of base part)
          ∙ ap (λ (l : List Claimed). front_by 0 e l) later.0,
      ap (λ (f : Event). rest_by f (front_of base part) (rest_of base part)) here
          ∙ rest-same base e (front_of base part) (rest_of base part)
          ∙ ap (λ (l : List Claimed). rest_by e l (rest_of base part)) later.0
          ∙ ap (λ (l : List (List Claimed)). rest_by e (front_of 0 (bare es)) l) later.1,
    )

-- a part has the claims of its events
pub claims-same : (base : ℕ) (part : List Happening) (es : List Event)
    → map (λ (h : Happening). h.event) part ≡ map (counted_from base) es
    → claims_of base part ≡ claims_from es
claims-same base part es same =
    let both = fronts base part es same in
    ap (λ (l : List Claimed). l ∷ rest_of base part) both.0
    ∙ ap (λ (l : List (List Claimed)). front_of 0 (bare es) ∷ l) both.1

pub woven-behind : (chances : List Chance) → woven_in chances ≡ woven_in (behind_numbers chances)
woven-behind [] = refl
woven-behind (Shown number ∷ later) = woven-behind later
woven-behind (Woven claims ∷ later) = refl

pub behind-behind : (chances : List Chance)
    → behind_woven chances ≡ behind_woven (behind_numbers chances)
behind-behind [] = refl
behind-behind (Shown number ∷ later) = behind-behind later
behind-behind (Woven claims ∷ later) = refl

-- ---- all facts

pub facts-part : (part : List Happening) (r : Run)
    → facts_in (facts_of r) (facts_by part) ≡ facts_of (followed_by part r)
facts-part [] r = refl
facts-part (x ∷ part) r = facts-part part (x ∷ r)

-- ---- what calls and laws give

-- what `merge` says of its events
abbrev pub AreMerged : List Step → List (List Entry) → List Event → Type 0
AreMerged steps logs es = (settings : Settings) (users : List UserFrame) (base : ℕ)
    (ans : ℕ → ℕ → AssociationNumber) (pointed : ℕ → ℕ) (r : Run) (moves : List Move)
    → length logs + 1 < 2 ^ 32 → AreSteps steps moves
    → IsRaced settings users base ans pointed r moves (logs_of 0 logs)
    → let part = part_of settings base (merged moves (entries_of (logs_of 0 logs))) r in
    (map (λ h. h.event) part ≡ map (counted_from base) es)
    × IsWoven base part (map (λ m. m.x) moves) (logs_of 0 logs)
    × IsLegal settings users (followed_by part r)
    × (IsThrifty settings r
    → ((s epoch : ℕ) → unused settings s epoch (followed_by part r) ≤ 16)
    → IsThrifty settings (followed_by part r))

-- what laws say of races
pub record RaceLaws : Type 0 where
  pub raced : (race : Race) → WereBeside race
      → IsRaced race.settings race.users race.base (ans_in race) (pointed_in race) race.run
      (moves_in race) (attempts_in race)
  pub steps : (race : Race) → WereBeside race → AreSteps race.steps (moves_in race)
  pub few : (race : Race) → WereBeside race → length (logs_in race) + 1 < 2 ^ 32
  pub control : (race : Race) → map (λ m. m.x) (moves_in race) ≡ happenings race.performed
  pub unused : (race : Race) → WereBeside race → (state : State)
      → GroupStandsFor race.settings race.users state race.run → (part : List Happening)
      → IsWoven race.base part (happenings race.performed) (attempts_in race)
      → IsStepped race.settings race.users (followed_by part race.run) → (s epoch : ℕ)
      → unused race.settings s epoch (followed_by part race.run) ≤ 16

-- the part of a race, by its merged events
pub record IsPart (race : Race) (es : List Event) (part : List Happening) : Type 0 where
  pub events : map (λ h. h.event) part ≡ map (counted_from race.base) es
  pub woven : IsWoven race.base part (happenings race.performed) (attempts_in race)
  pub legal : IsLegal race.settings race.users (followed_by part race.run)
  pub few : (s epoch : ℕ) → unused race.settings s epoch (followed_by part race.run) ≤ 16
  pub thrifty : IsThrifty race.settings race.run
      → IsThrifty race.settings (followed_by part race.run)

pub race-part : (race : Race) → WereBeside race → (es : List Event) (state : State)
    → GroupStandsFor race.settings race.users state race.run → RaceLaws
    → AreMerged race.steps (logs_in race) es → IsPart race es (part_in race)
race-part race is es state stands laws merged =
    let given = merged race.settings race.users race.base (ans_in race) (pointed_in race) race.run
    (moves_in race) (laws.few race is) (laws.steps race is) (laws.raced race is) in
    let part = part_in race in
    let woven : IsWoven race.base part (happenings race.performed) (attempts_in race) =
    subst (λ (steps : List Happening). IsWoven race.base part steps (attempts_in race))
    (laws.control race) given.1 in
    let few = laws.unused race is state stands part woven given.2.stepped in
    record {
      events = given.0;
      woven = woven;
      legal = given.2;
      few = few;
      thrifty = λ before. given.3 before few;
    }

module _ (race : Race) (is : WereBeside race) (es : List Event) (part : List Happening)
    (at : IsPart race es part) where
  new-workers : AllByRecursion IsNew race.began
  new-workers = recursion_from_All IsNew race.began is.new

  -- where a claim got no number, no next number is past the last one
  next-low : HasRefused part → (s epoch : ℕ)
      → next race.settings s epoch (followed_by part race.run) ≤ last_number
  next-low refused s epoch =
      let bound = next-few race.settings s epoch (followed_by part race.run) in
      let few = at.few s epoch in
      let all = claims-numbered race.settings race.users race.base part race.run at.legal.stepped in
      let fewer = refused-fewer race.base part refused in
      let jobs = claims-jobs race.base race.began race.ended part (happenings race.performed) is.done
      new-workers at.woven in
      let most = is.claims_few in
      omega (arith, bound, few, all, fewer, jobs, most)

  -- no claim of it finds a key without a number left
  pub unspent-part : IsNeverSpent race.run → IsNeverSpent (followed_by part race.run)
  unspent-part never =
      part-unspent race.settings race.users part race.run at.legal.stepped next-low never

  -- its events show what it shows
  pub shown-part : shown_in es (facts_by (happenings race.performed)) (frames_of es (logs_in race))
      ≡ facts_by part
  shown-part = woven-shown race.base part (happenings race.performed) es (logs_in race) at.events
      at.woven (are-plain race.settings race.users part race.run at.legal.stepped next-low)
