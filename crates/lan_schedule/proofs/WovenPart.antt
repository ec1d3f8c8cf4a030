-- A part of a run that is woven of control and of the logs of workers is what claims make that are
-- woven in between control's events.
use Rattle.std.proofs.Common.{◌≡◌, ℕ, ◌+◌, ◌-◌, Bool, true, false, List, [], ◌∷◌, ◌++◌}
use Rattle.std.proofs.Common.{length, take, Some, None, refl, sym, ap, ◌∙◌, subst, inl, inr, arith}
use Rattle.std.proofs.Common.{append_assoc}
use Rattle.std.specs.Prelude.{Option, option_map, reverse, not, cond}
use Rattle.std.specs.List.{AllByRecursion, filter}
use Rattle.std.proofs.lemmas.Bool.{cases_Bool, eqb-true}
use Rattle.std.proofs.lemmas.List.{length-append, length-reverse, reverse-append, reverse-reverse, take_all}
use Rattle.std.proofs.lemmas.List.{take-append-le}
use Rattle.lan_base.specs.declared.frame.UserFrame.{UserFrame}
use Rattle.lan_core.specs.declared.event.Event.{Event}
use Rattle.lan_core.specs.declared.event.Event.TheVariants as events
use Rattle.lan_core.specs.declared.fact.Fact.{Fact}
use Rattle.lan_core.specs.declared.settings.Settings.{Settings}
use Rattle.lan_core.specs.Run.{Run, Happening, happened}
use Rattle.lan_core.specs.Lives.{Life, life, transmitting_at}
use Rattle.lan_core.specs.Expected.{claim_fact, drawn_in, expected}
use Rattle.lan_core.specs.Legal.{IsStep, IsStepped}
use Rattle.lan_core.specs.Parts.{followed_by, is_claim, without_claims}
use Rattle.lan_core.proofs.Public.{stepped-front}
use Rattle.worker_races.specs.merge.Places.{Attempt}
use Rattle.worker_races.specs.merge.Merged.{nth_log}
use Rattle.worker_races.specs.merge.Weaving.{AreClaimsOf, IsClaimOf, IsOfLog, IsWoven, is_claim_for}
use Rattle.lan_schedule.specs.Races.{Claimed, Worker, woven_in}
use Rattle.lan_schedule.specs.World.{World, settings}
use Rattle.lan_schedule.specs.Acts.{after_race, claim_of, since, station_of, woven}

-- ---- the claims of a part

-- a claim for a user frame, before whose race so many came
abbrev pub claimed_for : ℕ → ℕ → ℕ → Claimed
claimed_for base user pn = record { worker = user - base - 1; pn = pn }

-- what was claimed before the first event of control, and since each of them, by the next event
abbrev pub front_by : ℕ → Event → List Claimed → List Claimed
front_by base (events.Claim s user pn) front = claimed_for base user pn ∷ front
front_by base _ front = []

abbrev pub rest_by : Event → List Claimed → List (List Claimed) → List (List Claimed)
rest_by (events.Claim s user pn) front rest = rest
rest_by _ front rest = front ∷ rest

abbrev pub front_of : ℕ → List Happening → List Claimed
front_of base [] = []
front_of base (x ∷ part) = front_by base x.event (front_of base part)

abbrev pub rest_of : ℕ → List Happening → List (List Claimed)
rest_of base [] = []
rest_of base (x ∷ part) = rest_by x.event (front_of base part) (rest_of base part)

-- for each event of control the claims since the one before it, and those behind the last
abbrev pub claims_of : ℕ → List Happening → List (List Claimed)
claims_of base part = front_of base part ∷ rest_of base part

-- ---- lists

all-filter : {X : Type 0} (p : X → Bool) (Q : X → Type 0) (xs : List X)
    → AllByRecursion Q (filter p xs) → AllByRecursion (λ x. p x ≡ true → Q x) xs
all-filter p Q [] all = tt
all-filter p Q (x ∷ xs) all = elim (cases_Bool (p x)) [
  | inl holds ↦ (let here : AllByRecursion Q (x ∷ filter p xs) =
      subst (λ (b : Bool). AllByRecursion Q (cond b (x ∷ filter p xs) (filter p xs))) holds all in
      (λ is. here.0, all-filter p Q xs here.1))
  | inr fails ↦ (let here : AllByRecursion Q (filter p xs) =
      subst (λ (b : Bool). AllByRecursion Q (cond b (x ∷ filter p xs) (filter p xs))) fails all in
      (λ is. absurd (let bad : true ≡ false = sym is ∙ fails in cc bad), all-filter p Q xs here))
]

all-swap : {X : Type 0} (P : ℕ → X → Type 0) (xs : List X) → ((u : ℕ) → AllByRecursion (P u) xs)
    → AllByRecursion (λ x. (u : ℕ) → P u x) xs
all-swap P [] all = tt
all-swap P (x ∷ xs) all = (λ u. (all u).0, all-swap P xs (λ u. (all u).1))

-- ---- a part whose claims are those of workers

-- an event is the claim of a worker after a run, where it is a claim
abbrev IsOwnBy : Settings → List Worker → ℕ → Event → Happening → Run → Type 0
IsOwnBy settings workers base (events.Claim s user pn) x r =
    x ≡ claim_of settings workers base (claimed_for base user pn) r
IsOwnBy settings workers base _ x r = Unit {0}

abbrev AreOwn : Settings → List Worker → ℕ → List Happening → Run → Type 0
AreOwn settings workers base [] r = Unit {0}
AreOwn settings workers base (x ∷ part) r =
    IsOwnBy settings workers base x.event x r × AreOwn settings workers base part (x ∷ r)

module _ (settings : Settings) (workers : List Worker) (base : ℕ) where
  -- the first claim comes first
  claim-first : (c : Claimed) (front : List Claimed) (rest : List (List Claimed))
      (control : List Happening) (r : Run)
      → woven settings workers base ((c ∷ front) ∷ rest) control r
      ≡ woven settings workers base (front ∷ rest) control
      (claim_of settings workers base c r ∷ r)
  claim-first c front rest [] r = refl
  claim-first c front rest (y ∷ control) r = refl

  woven-step : (e : Event) (x : Happening) (front : List Claimed) (rest : List (List Claimed))
      (control part : List Happening) (r : Run) → IsOwnBy settings workers base e x r
      → woven settings workers base (front ∷ rest) control (x ∷ r) ≡ followed_by part (x ∷ r)
      → woven settings workers base (front_by base e front ∷ rest_by e front rest)
      (cond (not (is_claim e)) (x ∷ control) control) r ≡ followed_by part (x ∷ r)
  woven-step (events.Claim s user pn) x front rest control part r own later =
      claim-first (claimed_for base user pn) front rest control r
      ∙ ap (λ (y : Happening). woven settings workers base (front ∷ rest) control (y ∷ r)) (sym own)
      ∙ later
  woven-step (events.Start name sci priority) x front rest control part r own later = later
  woven-step (events.Tick s next) x front rest control part r own later = later
  woven-step (events.Deliver frame s) x front rest control part r own later = later
  woven-step (events.Restart s) x front rest control part r own later = later
  woven-step events.Emit x front rest control part r own later = later
  woven-step (events.Inject s octets) x front rest control part r own later = later

  pub own-woven : (part : List Happening) (r : Run) → AreOwn settings workers base part r
      → woven settings workers base (claims_of base part) (without_claims part) r
      ≡ followed_by part r
  own-woven [] r own = refl
  own-woven (x ∷ part) r own =
      woven-step x.event x (front_of base part) (rest_of base part) (without_claims part) part r own.0
      (own-woven part (x ∷ r) own.1)

  -- ---- whose claims they are

  -- a claim for the user frame of a worker
  own-claim : (s user pn u : ℕ) (x : Happening) (r : Run) → x.event ≡ events.Claim s user pn
      → s ≡ station_of workers u → user ≡ base + u + 1
      → x.facts ≡ claim_fact settings s r pn (transmitting_at settings s r) ∷ []
      → x ≡ claim_of settings workers base (claimed_for base user pn) r
  own-claim s user pn u x r event station number shows =
      let place : user - base - 1 ≡ u = omega (arith, number) in
      let made : (t v : ℕ) → Happening = λ t v. happened (events.Claim t (base + v + 1) pn)
      (claim_fact settings t r pn (transmitting_at settings t r) ∷ []) in
      ap (λ (e : Event). happened e x.facts) event
      ∙ ap (λ (shown : List Fact). happened (events.Claim s user pn) shown) shows
      ∙ ap (λ (n : ℕ). happened (events.Claim s n pn)
      (claim_fact settings s r pn (transmitting_at settings s r) ∷ [])) number
      ∙ ap (λ (t : ℕ). made t u) station
      ∙ ap (λ (v : ℕ). made (station_of workers v) v) (sym place)

  -- what is known of a claim in a part
  abbrev IsFrom : ℕ → Happening → Type 0
  IsFrom u x = (a : Attempt) × (a.station ≡ station_of workers u) × IsClaimOf base a x

  are-from : (u : ℕ) (attempts : List Attempt) (hs : List Happening)
      → AllByRecursion (λ a. a.station ≡ station_of workers u) attempts → AreClaimsOf base attempts hs
      → AllByRecursion (IsFrom u) hs
  are-from u [] [] all are = tt
  are-from u [] (h ∷ hs) all are = absurd are
  are-from u (a ∷ attempts) [] all are = absurd are
  are-from u (a ∷ attempts) (h ∷ hs) all are = ((a, all.0, are.0), are-from u attempts hs all.1 are.1)

  abbrev HasPlace : Happening → Type 0
  HasPlace x = (u : ℕ) → is_claim_for (base + u + 1) x.event ≡ true → IsFrom u x

  shown-claim : (users : List UserFrame) (s user pn : ℕ) (x : Happening) (r : Run)
      → x.event ≡ events.Claim s user pn → IsStep settings users x r
      → x.facts ≡ claim_fact settings s r pn (transmitting_at settings s r) ∷ []
  unfolding expected
  shown-claim users s user pn x r event step =
      by (life settings s r) (ap (λ (e : Event). expected settings users r e (drawn_in x.facts))
      (sym event) ∙ step.shows) where
        by : (o : Option Life)
            → option_map (λ (l : Life).
            claim_fact settings s r pn (transmitting_at settings s r) ∷ []) o ≡ Some x.facts
            → x.facts ≡ claim_fact settings s r pn (transmitting_at settings s r) ∷ []
        by (Some l) e = cc
        by None e = absurd (cc e)

  own-by : (users : List UserFrame) (e : Event) (x : Happening) (r : Run) → x.event ≡ e
      → IsStep settings users x r → HasPlace x → IsOfLog base x → IsOwnBy settings workers base e x r
  own-by users (events.Claim s user pn) x r event step placed of_log =
      let log = of_log (ap is_claim event) in
      let own = ap (is_claim_for (base + log.0 + 1)) (sym event) ∙ log.1 in
      let number : user ≡ base + log.0 + 1 = eqb-true user (base + log.0 + 1) own in
      let from = placed log.0 log.1 in
      let station : s ≡ from.0.station = station-of s from.0.station _ _ _ _
      (sym event ∙ from.2.event) in
      own-claim s user pn log.0 x r event (station ∙ from.1) number
      (shown-claim users s user pn x r event step) where
        station-of : (s t u v p q : ℕ) → events.Claim s u p ≡ events.Claim t v q → s ≡ t
        station-of s t u v p q e = cc
  own-by users (events.Start name sci priority) x r event step placed of_log = tt
  own-by users (events.Tick s next) x r event step placed of_log = tt
  own-by users (events.Deliver frame s) x r event step placed of_log = tt
  own-by users (events.Restart s) x r event step placed of_log = tt
  own-by users events.Emit x r event step placed of_log = tt
  own-by users (events.Inject s octets) x r event step placed of_log = tt

  are-own : (users : List UserFrame) (part : List Happening) (r : Run)
      → IsStepped settings users (followed_by part r) → AllByRecursion HasPlace part
      → AllByRecursion (IsOfLog base) part → AreOwn settings workers base part r
  are-own users [] r stepped placed of_log = tt
  are-own users (x ∷ part) r stepped placed of_log = (
    own-by users x.event x r refl (stepped-front settings users part (x ∷ r) stepped).0 placed.0
        of_log.0,
    are-own users part (x ∷ r) stepped placed.1 of_log.1,
  )

  -- A part that is woven of control and of logs, each of a worker's station, is woven of control and
  -- of what the workers claimed.
  pub part-woven : (users : List UserFrame) (part control : List Happening)
      (logs : List (List Attempt)) (r : Run)
      → ((u : ℕ) → AllByRecursion (λ a. a.station ≡ station_of workers u) (nth_log u logs))
      → IsWoven base part control logs → IsStepped settings users (followed_by part r)
      → woven settings workers base (claims_of base part) control r ≡ followed_by part r
  part-woven users part control logs r stations is stepped =
      ap (λ (steps : List Happening).
      woven settings workers base (claims_of base part) steps r) (sym is.control)
      ∙ own-woven part r (are-own users part r stepped
      (all-swap (λ u x. is_claim_for (base + u + 1) x.event ≡ true → IsFrom u x) part
      (λ u. all-filter (λ x. is_claim_for (base + u + 1) x.event) (IsFrom u) part
      (are-from u (nth_log u logs) _ (stations u) (is.claims u)))) is.no_other)

-- ---- the world after a race

-- a run with a part behind it has that part since then
pub followed-reverse : (hs : List Happening) (r : Run) → followed_by hs r ≡ reverse hs ++ r
followed-reverse [] r = refl
followed-reverse (h ∷ hs) r =
    followed-reverse hs (h ∷ r) ∙ sym (append_assoc (reverse hs) (h ∷ []) r)
    ∙ ap (λ (l : Run). l ++ r) (sym (reverse-append (h ∷ []) hs))

pub since-followed : (w v : World) (hs : List Happening) → v.run ≡ followed_by hs w.run
    → since w v ≡ hs
since-followed w v hs is =
    let run : v.run ≡ reverse hs ++ w.run = is ∙ followed-reverse hs w.run in
    let long : length v.run ≡ length hs + length w.run = ap (λ (r : Run). length r) run
    ∙ length-append (reverse hs) w.run ∙ ap (λ n. n + length w.run) (length-reverse hs) in
    let many : length v.run - length w.run ≡ length (reverse hs) =
    omega (arith, long, length-reverse hs) in
    ap (λ (r : Run). reverse (take (length v.run - length w.run) r)) run
    ∙ ap (λ n. reverse (take n (reverse hs ++ w.run))) many
    ∙ ap (λ (r : Run). reverse r) (take-append-le (length (reverse hs)) (reverse hs) w.run (omega arith))
    ∙ ap (λ (r : Run). reverse r) (take_all (length (reverse hs)) (reverse hs) (omega arith))
    ∙ reverse-reverse hs

-- the chance that claims are woven so gives the race this run
pub after-woven : (users : List UserFrame) (workers : List Worker) (w v : World)
    (part control : List Happening) (logs : List (List Attempt))
    → v.run ≡ followed_by control w.run
    → woven_in v.kept.chances ≡ claims_of (length w.kept.users) part
    → ((u : ℕ) → AllByRecursion (λ a. a.station ≡ station_of workers u) (nth_log u logs))
    → IsWoven (length w.kept.users) part control logs
    → IsStepped (settings w) users (followed_by part w.run)
    → (after_race workers w v).run ≡ followed_by part w.run
after-woven users workers w v part control logs run chances stations is stepped =
    let base = length w.kept.users in
    ap (λ (hs : List Happening). woven (settings w) workers base (woven_in v.kept.chances) hs w.run)
    (since-followed w v control run)
    ∙ ap (λ (claims : List (List Claimed)). woven (settings w) workers base claims control w.run)
    chances
    ∙ part-woven (settings w) workers base users part control logs w.run stations is stepped
