-- A part that is woven of control and of logs has as many claims of a worker as its log has entries.
use Rattle.std.proofs.Common.{◌≡◌, ℕ, suc, ◌+◌, ◌-◌, ◌==◌, Bool, true, false, List, [], ◌∷◌}
use Rattle.std.proofs.Common.{length, refl, sym, ap, ◌∙◌, inl, inr, arith}
use Rattle.std.specs.Prelude.{cond}
use Rattle.std.specs.List.{AllByRecursion, filter}
use Rattle.std.proofs.lemmas.Bool.{cases_Bool, eqb-true, eqb-false}
use Rattle.lan_core.specs.declared.event.Event.{Event}
use Rattle.lan_core.specs.declared.event.Event.TheVariants as events
use Rattle.lan_core.specs.Parts.{is_claim}
use Rattle.lan_core.specs.Run.{Happening}
use Rattle.worker_races.specs.merge.Places.{Attempt}
use Rattle.worker_races.specs.merge.Merged.{nth_log}
use Rattle.worker_races.specs.merge.Weaving.{AreClaimsOf, IsOfLog, IsWoven, is_claim_for}
use Rattle.lan_schedule.specs.Races.{Claimed, claims_in, count_of}
use Rattle.lan_schedule.proofs.WovenPart.{claimed_for, claims_of, front_by, front_of, rest_by, rest_of}

-- ---- all claims of a part

abbrev pub claims_by : ℕ → Event → List Claimed → List Claimed
claims_by base (events.Claim s user pn) later = claimed_for base user pn ∷ later
claims_by base _ later = later

pub all-by : (base : ℕ) (e : Event) (front : List Claimed) (rest : List (List Claimed))
    → claims_in (front_by base e front ∷ rest_by e front rest)
    ≡ claims_by base e (claims_in (front ∷ rest))
all-by base (events.Claim s user pn) front rest = refl
all-by base (events.Start name sci priority) front rest = refl
all-by base (events.Tick s next) front rest = refl
all-by base (events.Deliver frame s) front rest = refl
all-by base (events.Restart s) front rest = refl
all-by base events.Emit front rest = refl
all-by base (events.Inject s octets) front rest = refl

-- ---- the claims of one worker

abbrev pub counted : Bool → ℕ → ℕ
counted own count = cond own (suc count) count

pub count-claim : (c : Claimed) (claims : List Claimed) (u : ℕ)
    → count_of (c ∷ claims) u ≡ counted (c.worker == u) (count_of claims u)
count-claim c claims u = elim (cases_Bool (c.worker == u)) [
  | inl own ↦ rw own refl
  | inr other ↦ rw other refl
]

same-worker : (base user u v : ℕ) → user ≡ base + v + 1 → (user - base - 1 == u) ≡ (user == base + u + 1)
same-worker base user u v is = elim (cases_Bool (user == base + u + 1)) [
  | inl own ↦ (let place = eqb-true user (base + u + 1) own in
      let at : user - base - 1 ≡ u = omega (arith, place) in rw at (same-number u ∙ sym own))
  | inr other ↦ (let far = eqb-false user (base + u + 1) other in
      let at : user - base - 1 ≡ v = omega (arith, is) in
      rw at (grind arith))
] where
  same-number : (n : ℕ) → (n == n) ≡ true
  same-number n = grind arith

count-by : (base u : ℕ) (e : Event) (x : Happening) (part : List Happening) (claims : List Claimed)
    → x.event ≡ e → IsOfLog base x
    → count_of claims u ≡ length (filter (λ h. is_claim_for (base + u + 1) h.event) part)
    → count_of (claims_by base e claims) u
    ≡ length (filter (λ h. is_claim_for (base + u + 1) h.event) (x ∷ part))
count-by base u (events.Claim s user pn) x part claims event of_log later =
    let log = of_log (ap is_claim event) in
    let number : user ≡ base + log.0 + 1 = eqb-true user (base + log.0 + 1)
    (ap (is_claim_for (base + log.0 + 1)) (sym event) ∙ log.1) in
    let own : (user - base - 1 == u) ≡ is_claim_for (base + u + 1) x.event =
    same-worker base user u log.0 number ∙ ap (is_claim_for (base + u + 1)) (sym event) in
    count-claim (claimed_for base user pn) claims u
    ∙ ap (λ (b : Bool). counted b (count_of claims u)) own
    ∙ ap (λ n. counted (is_claim_for (base + u + 1) x.event) n) later
    ∙ counted-filter (is_claim_for (base + u + 1) x.event) where
      counted-filter : (b : Bool)
          → counted b (length (filter (λ h. is_claim_for (base + u + 1) h.event) part))
          ≡ length (cond b (x ∷ filter (λ h. is_claim_for (base + u + 1) h.event) part)
          (filter (λ h. is_claim_for (base + u + 1) h.event) part))
      counted-filter true = refl
      counted-filter false = refl
count-by base u (events.Start name sci priority) x part claims event of_log later = rw event later
count-by base u (events.Tick s next) x part claims event of_log later = rw event later
count-by base u (events.Deliver frame s) x part claims event of_log later = rw event later
count-by base u (events.Restart s) x part claims event of_log later = rw event later
count-by base u events.Emit x part claims event of_log later = rw event later
count-by base u (events.Inject s octets) x part claims event of_log later = rw event later

count-all : (base u : ℕ) (part : List Happening) → AllByRecursion (IsOfLog base) part
    → count_of (claims_in (claims_of base part)) u
    ≡ length (filter (λ h. is_claim_for (base + u + 1) h.event) part)
count-all base u [] of_log = refl
count-all base u (x ∷ part) of_log =
    ap (λ claims. count_of claims u) (all-by base x.event (front_of base part) (rest_of base part))
    ∙ count-by base u x.event x part (claims_in (claims_of base part)) refl of_log.0
    (count-all base u part of_log.1)

as-many : (base : ℕ) (attempts : List Attempt) (hs : List Happening) → AreClaimsOf base attempts hs
    → length hs ≡ length attempts
as-many base [] [] are = refl
as-many base [] (h ∷ hs) are = absurd are
as-many base (a ∷ attempts) [] are = absurd are
as-many base (a ∷ attempts) (h ∷ hs) are = ap (λ n. suc n) (as-many base attempts hs are.1)

-- each worker claimed as often as its log says
pub count-log : (base u : ℕ) (part control : List Happening) (logs : List (List Attempt))
    → IsWoven base part control logs
    → count_of (claims_in (claims_of base part)) u ≡ length (nth_log u logs)
count-log base u part control logs is =
    count-all base u part is.no_other ∙ as-many base (nth_log u logs) _ (is.claims u)
