-- Logs by their places, and what the next event of a part that is woven of them leaves of the logs.
use Rattle.std.proofs.Common.{◌≡◌, ◌+◌, ◌-◌, ◌==◌, ℕ, zero, suc, Bool, false, cond, List, [], ◌∷◌, map, filter}
use Rattle.std.proofs.Common.{Some, refl, sym, ap, ◌∙◌, subst, arith, inl, inr}
use Rattle.std.proofs.lemmas.Bool.{cases_Bool, eqb-true, eqb-false, eq-eqb, ne_eqb}
use Rattle.lan_core.specs.declared.event.Event.{Event}
use Rattle.lan_core.specs.declared.event.Event.TheVariants as events
use Rattle.lan_core.specs.Parts.{is_claim}
use Rattle.lan_core.specs.Run.{Happening}
use Rattle.data_workers.specs.declared.entry.Entry.{Entry}
use Rattle.worker_races.specs.merge.Merged.{nth_log}
use Rattle.worker_races.specs.merge.Steps.{attempt_of, counted_from, logs_of}
use Rattle.worker_races.specs.merge.Taking.{first_of, frame_in, left_by, next_entry, rest_of, taken_by, without_next}
use Rattle.worker_races.specs.merge.Weaving.{AreClaimsOf, IsClaimOf, IsOfLog, is_claim_for}

-- ---- logs by their places

pub nth-logs : (k u : ℕ) (logs : List (List Entry)) → nth_log u (logs_of k logs) ≡ map (attempt_of (k + u)) (nth_log u logs)
nth-logs k zero [] = refl
nth-logs k (suc u) [] = refl
nth-logs k zero (log ∷ logs) = ap (λ n. map (attempt_of n) log) (right k)
  where
    right : (k : ℕ) → k ≡ k + 0
    right k = omega arith
nth-logs k (suc u) (log ∷ logs) = nth-logs (suc k) u logs ∙ ap (λ n. map (attempt_of n) (nth_log u logs)) (over k u)
  where
    over : (k u : ℕ) → suc k + u ≡ k + suc u
    over k u = omega arith

pub next-nth : (u : ℕ) (logs : List (List Entry)) → next_entry u logs ≡ first_of (nth_log u logs)
next-nth zero [] = refl
next-nth (suc u) [] = refl
next-nth zero (log ∷ logs) = refl
next-nth (suc u) (log ∷ logs) = next-nth u logs

pub nth-same : (u : ℕ) (logs : List (List Entry)) → nth_log u (without_next u logs) ≡ rest_of (nth_log u logs)
nth-same zero [] = refl
nth-same (suc u) [] = refl
nth-same zero (log ∷ logs) = refl
nth-same (suc u) (log ∷ logs) = nth-same u logs

pub nth-other : (u v : ℕ) (logs : List (List Entry)) → (v ≡ u → ⊥) → nth_log v (without_next u logs) ≡ nth_log v logs
nth-other zero v [] other = refl
nth-other (suc u) v [] other = refl
nth-other zero zero (log ∷ logs) other = absurd (other refl)
nth-other zero (suc v) (log ∷ logs) other = refl
nth-other (suc u) zero (log ∷ logs) other = refl
nth-other (suc u) (suc v) (log ∷ logs) other = nth-other u v logs (λ e. other (ap suc e))

-- what holds of the rest of a log, and of each other log, holds of all behind a claim
pub nth-left : (P : ℕ → List Entry → Type 0) (u : ℕ) (x : Entry) (more : List Entry) (logs : List (List Entry)) → nth_log u logs ≡ x ∷ more
    → P u more → ((v : ℕ) → (v ≡ u → ⊥) → P v (nth_log v logs)) → (v : ℕ) → P v (nth_log v (without_next u logs))
nth-left P u x more logs at own others v = elim (cases_Bool (v == u)) [
  | inl same ↦ (let e = eqb-true v u same in
      subst (λ i. P i (nth_log i (without_next u logs))) (sym e) (subst (P u) (sym (nth-same u logs ∙ ap rest_of at)) own))
  | inr other ↦ (let differ = eqb-false v u other in subst (P v) (sym (nth-other u v logs differ)) (others v differ))
]

-- ---- the next event of a part

pub told-front : (base : ℕ) (h : Happening) (part : List Happening) (e : Event) (es : List Event)
    → map (λ (x : Happening). x.event) (h ∷ part) ≡ map (counted_from base) (e ∷ es)
    → (h.event ≡ counted_from base e) × (map (λ (x : Happening). x.event) part ≡ map (counted_from base) es)
told-front base h part e es told =
    let is : h.event ∷ map (λ (x : Happening). x.event) part ≡ counted_from base e ∷ map (counted_from base) es = told in (cc is, cc is)

module _ (base : ℕ) where
  -- the claims of a part for the user frame of a log
  abbrev pub claims_for : ℕ → List Happening → List Happening
  claims_for u part = filter (λ h. is_claim_for (base + u + 1) h.event) part

  -- the claims that are left in a part are those of the logs that are left
  abbrev pub Left : List Happening → List (List Entry) → Type 0
  Left part logs = (u : ℕ) → AreClaimsOf base (map (attempt_of u) (nth_log u logs)) (claims_for u part)

  -- It is no claim, and leaves the logs; or it is that of the next entry of a log.
  pub data Next (h : Happening) (part : List Happening) (e : Event) (logs : List (List Entry)) : Type 0 where
    leaves : h.event ≡ e → is_claim e ≡ false → Left part logs → taken_by e logs ≡ [] → left_by e logs ≡ logs → Next h part e logs
    takes : (u : ℕ) (x : Entry) (more : List Entry) → nth_log u logs ≡ x ∷ more → IsClaimOf base (attempt_of u x) h
        → Left part (without_next u logs) → taken_by e logs ≡ frame_in (Some x) → left_by e logs ≡ without_next u logs → Next h part e logs

  pub next-is : (h : Happening) (part : List Happening) (e : Event) (logs : List (List Entry)) → h.event ≡ counted_from base e
      → IsOfLog base h → Left (h ∷ part) logs → Next h part e logs
  next-is h part e logs ev of claims = go e ev
    where
      if_own : Bool → ℕ → List Happening
      if_own own u = cond own (h ∷ claims_for u part) (claims_for u part)

      -- of a log that the event is not for
      other : (u : ℕ) → is_claim_for (base + u + 1) h.event ≡ false → AreClaimsOf base (map (attempt_of u) (nth_log u logs)) (claims_for u part)
      other u none = subst (λ b. AreClaimsOf base (map (attempt_of u) (nth_log u logs)) (if_own b u)) none (claims u)

      none-taken : (e : Event) → h.event ≡ e → is_claim e ≡ false → ((n : ℕ) → is_claim_for n e ≡ false) → taken_by e logs ≡ [] → left_by e logs ≡ logs
          → Next h part e logs
      none-taken e is none never taken left = leaves is none (λ u. other u (ap (is_claim_for (base + u + 1)) is ∙ never (base + u + 1))) taken left

      claim : (s user pn u : ℕ) → base + user ≡ base + u + 1 → h.event ≡ events.Claim s (base + user) pn → Next h part (events.Claim s user pn) logs
      claim s user pn u same is = entry (nth_log u logs) refl
          (subst (λ b. AreClaimsOf base (map (attempt_of u) (nth_log u logs)) (if_own b u))
          (ap (is_claim_for (base + u + 1)) is ∙ eq-eqb (base + user) (base + u + 1) same) (claims u))
        where
          place : user - 1 ≡ u
          place = omega (arith, same)

          apart : (v : ℕ) → (v ≡ u → ⊥) → is_claim_for (base + v + 1) h.event ≡ false
          apart v differ = ap (is_claim_for (base + v + 1)) is ∙ ne_eqb (base + user) (base + v + 1) (λ e. differ (omega (arith, e, same)))

          entry : (l : List Entry) → nth_log u logs ≡ l → AreClaimsOf base (map (attempt_of u) l) (h ∷ claims_for u part)
              → Next h part (events.Claim s user pn) logs
          entry [] at own = absurd own
          entry (x ∷ more) at own = takes u x more at own.0
              (nth-left (λ v l. AreClaimsOf base (map (attempt_of v) l) (claims_for v part)) u x more logs at own.1 (λ v differ. other v (apart v differ)))
              (ap (λ i. frame_in (next_entry i logs)) place ∙ ap frame_in (next-nth u logs ∙ ap first_of at)) (ap (λ i. without_next i logs) place)

      go : (e : Event) → h.event ≡ counted_from base e → Next h part e logs
      go (events.Claim s user pn) is =
          let own = of (ap is_claim is) in
          claim s user pn own.0 (eqb-true (base + user) (base + own.0 + 1) (sym (ap (is_claim_for (base + own.0 + 1)) is) ∙ own.1)) is
      go (events.Start name sci priority) is = none-taken _ is refl (λ n. refl) refl refl
      go (events.Tick s next) is = none-taken _ is refl (λ n. refl) refl refl
      go (events.Deliver frame s) is = none-taken _ is refl (λ n. refl) refl refl
      go (events.Restart s) is = none-taken _ is refl (λ n. refl) refl refl
      go events.Emit is = none-taken _ is refl (λ n. refl) refl refl
      go (events.Inject s octets) is = none-taken _ is refl (λ n. refl) refl refl
