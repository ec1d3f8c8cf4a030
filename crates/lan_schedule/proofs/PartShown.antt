-- What the merged events of a race show, by what was kept of control and by the frames of the logs,
-- is what the part shows that is woven of them.
use Rattle.std.proofs.Common.{◌≡◌, ◌+◌, ◌-◌, ◌==◌, ℕ, Bool, true, false, cond, List, [], ◌∷◌}
use Rattle.std.proofs.Common.{◌++◌, map, refl, sym, ap, ◌∙◌, subst, arith}
use Rattle.std.specs.List.{AllByRecursion, filter}
use Rattle.std.specs.Prelude.{not}
use Rattle.std.proofs.lemmas.Bool.{eqb-true, ne_eqb}
use Rattle.lan_base.specs.declared.frame.Protected.{Protected}
use Rattle.lan_core.specs.declared.event.Event.{Event}
use Rattle.lan_core.specs.declared.event.Event.TheVariants as events
use Rattle.lan_core.specs.declared.fact.Fact.{Fact}
use Rattle.lan_core.specs.declared.fact.Fact.TheVariants as facts
use Rattle.lan_core.specs.declared.fact.Lack.TheVariants.{NoKey}
use Rattle.lan_core.specs.Parts.{is_claim, without_claims}
use Rattle.lan_core.specs.Run.{Happening}
use Rattle.data_workers.specs.declared.entry.Entry.{Entry}
use Rattle.data_workers.specs.declared.entry.Entry.TheVariants.{Taken, Refused}
use Rattle.worker_races.specs.merge.Merged.{nth_log}
use Rattle.worker_races.specs.merge.Steps.{attempt_of, counted_from, logs_of}
use Rattle.worker_races.specs.merge.Taking.{first_of, frame_in, frames_of, left_by, next_entry}
use Rattle.worker_races.specs.merge.Taking.{taken_by, without_next}
use Rattle.worker_races.specs.merge.Weaving.{AreClaimsOf, IsOfLog, IsWoven, is_claim_for}
use Rattle.worker_races.proofs.Public.{Left, claims_for, next-nth, nth-left, nth-logs, told-front}
use Rattle.lan_schedule.specs.inside.Weaves.{claimed_by, frames_behind, kept_behind, shown_in}
use Rattle.lan_schedule.specs.inside.Weaves.{shown_of, without_first}
use Rattle.lan_schedule.proofs.PartReports.{facts_by}

-- ---- one event

-- a claim without a number shows that no key transmits
abbrev pub IsPlainBy : Event → List Fact → Type 0
IsPlainBy (events.Claim s user pn) shown = (pn == 0) ≡ true → shown ≡ facts.Unclaimed s NoKey ∷ []
IsPlainBy _ shown = Unit {0}

abbrev pub IsPlain : Happening → Type 0
IsPlain h = IsPlainBy h.event h.facts

-- a claim of a frame shows its number
taken-shows : (b : Bool) (s pn : ℕ) (p : Protected) (shown : List Fact)
    → (b ≡ true → shown ≡ facts.Unclaimed s NoKey ∷ [])
    → shown ≡ facts.Claimed p.station p.an p.epoch p.pn ∷ []
    → (cond b (facts.Unclaimed s NoKey ∷ []) (facts.Claimed p.station p.an p.epoch p.pn ∷ []) ≡ shown)
    × (b ≡ false)
taken-shows true s pn p shown plain is =
    absurd (let both = sym (plain refl) ∙ is in
    let first : facts.Unclaimed s NoKey ≡ facts.Claimed p.station p.an p.epoch p.pn = cc both in cc first)
taken-shows false s pn p shown plain is = (sym is, refl)

module _ (base : ℕ) where
  abbrev after_one : Bool → ℕ → Happening → List Happening → List Happening
  after_one own u h part = cond own (h ∷ claims_for base u part) (claims_for base u part)

  -- behind the next claim of a log
  left-claim : (h : Happening) (part : List Happening) (logs : List (List Entry)) (u : ℕ)
      (x : Entry) (more : List Entry) → Left base (h ∷ part) logs
      → ((v : ℕ) → (v ≡ u → ⊥) → is_claim_for (base + v + 1) h.event ≡ false)
      → nth_log u logs ≡ x ∷ more
      → AreClaimsOf base (map (attempt_of u) more) (claims_for base u part)
      → Left base part (without_next u logs)
  left-claim h part logs u x more claims others at own =
      nth-left (λ v l. AreClaimsOf base (map (attempt_of v) l) (claims_for base v part)) u x more logs at own
      (λ v differ. subst (λ b. AreClaimsOf base (map (attempt_of v) (nth_log v logs)) (after_one b v h part))
      (others v differ) (claims v))

  -- behind an event that is no claim
  left-still : (h : Happening) (part : List Happening) (logs : List (List Entry))
      → Left base (h ∷ part) logs → ((n : ℕ) → is_claim_for n h.event ≡ false) → Left base part logs
  left-still h part logs claims none u =
      subst (λ b. AreClaimsOf base (map (attempt_of u) (nth_log u logs)) (after_one b u h part))
      (none (base + u + 1)) (claims u)

  -- what is left to be shown
  abbrev Shows : List Happening → List Event → List (List Entry) → Type 0
  Shows part es logs =
      shown_in es (facts_by (without_claims part)) (frames_of es logs) ≡ facts_by part

  abbrev without_one : Bool → Happening → List Happening → List Happening
  without_one claim h part = cond (not claim) (h ∷ without_claims part) (without_claims part)

  pub part-shown : (part : List Happening) (es : List Event) (logs : List (List Entry))
      → map (λ (h : Happening). h.event) part ≡ map (counted_from base) es
      → AllByRecursion (IsOfLog base) part → AllByRecursion IsPlain part → Left base part logs
      → Shows part es logs
  unfolding shown_in frames_of
  part-shown [] [] logs told of plain claims = refl
  part-shown [] (e ∷ es) logs told of plain claims = absurd (cc told)
  part-shown (h ∷ part) [] logs told of plain claims = absurd (cc told)
  part-shown (h ∷ part) (e ∷ es) logs told of plain claims =
      let front = told-front base h part e es told in
      go e front.0 (λ ls left. part-shown part es ls front.1 of.1 plain.1 left)
    where
      Goal : Event → List (List Fact) → List Protected → Type 0
      Goal e kept frames =
          shown_of e kept frames ∷ shown_in es (kept_behind e kept) (frames_behind e frames)
          ≡ h.facts ∷ facts_by part

      -- an event that is no claim
      still : (e : Event) → h.event ≡ e
          → ((ls : List (List Entry)) → Left base part ls → Shows part es ls)
          → ((n : ℕ) → is_claim_for n e ≡ false) → is_claim e ≡ false
          → ((kept : List (List Fact)) (frames : List Protected)
          → shown_in es kept frames ≡ facts_by part → Goal e (h.facts ∷ kept) frames)
          → Goal e (facts_by (without_claims (h ∷ part))) (frames_of es logs)
      still e ev rest none claim goal =
          let kept : without_claims (h ∷ part) ≡ h ∷ without_claims part =
          ap (λ (b : Bool). without_one b h part) (ap is_claim ev ∙ claim) in
          subst (λ (l : List Happening). Goal e (facts_by l) (frames_of es logs)) (sym kept)
          (goal (facts_by (without_claims part)) (frames_of es logs)
          (rest logs (left-still h part logs claims
          (λ n. ap (is_claim_for n) ev ∙ none n))))

      -- a claim for the user frame of a log takes that log's next entry
      takes : (s user pn u : ℕ) → h.event ≡ events.Claim s (base + user) pn
          → ((ls : List (List Entry)) → Left base part ls → Shows part es ls)
          → is_claim_for (base + u + 1) h.event ≡ true
          → ((v : ℕ) → (v ≡ u → ⊥) → is_claim_for (base + v + 1) h.event ≡ false)
          → (l : List Entry) → nth_log u logs ≡ l
          → Goal (events.Claim s user pn) (facts_by (without_claims (h ∷ part)))
          (frame_in (first_of l) ++ frames_of es (without_next u logs))
      takes s user pn u ev rest for others l at =
          subst (λ (k : List Happening). Goal (events.Claim s user pn) (facts_by k)
          (frame_in (first_of l) ++ frames_of es (without_next u logs)))
          (sym (ap (λ (b : Bool). without_one b h part) (ap is_claim ev)))
          (entry l at mine)
        where
          mine : AreClaimsOf base (map (attempt_of u) l)
              (h ∷ filter (λ h. is_claim_for (base + u + 1) h.event) part)
          mine = subst (λ l. AreClaimsOf base (map (attempt_of u) l) (after_one true u h part)) at
              (subst (λ b. AreClaimsOf base (map (attempt_of u) (nth_log u logs)) (after_one b u h part))
              for (claims u))

          plain-here : (pn == 0) ≡ true → h.facts ≡ facts.Unclaimed s NoKey ∷ []
          plain-here = subst (λ (e : Event). IsPlainBy e h.facts) ev plain.0

          entry : (l : List Entry) → nth_log u logs ≡ l
              → AreClaimsOf base (map (attempt_of u) l)
              (h ∷ filter (λ h. is_claim_for (base + u + 1) h.event) part)
              → Goal (events.Claim s user pn) (facts_by (without_claims part))
              (frame_in (first_of l) ++ frames_of es (without_next u logs))
          entry [] at own = absurd own
          entry (Taken p ∷ more) at own =
              let shows = taken-shows (pn == 0) s pn p h.facts plain-here (own.0.taken refl) in
              let later = rest (without_next u logs)
              (left-claim h part logs u (Taken p) more claims others at own.1) in
              ap (λ (f : List Fact). f ∷ shown_in es (facts_by (without_claims part))
              (cond (pn == 0) (p ∷ frames_of es (without_next u logs))
              (frames_of es (without_next u logs)))) shows.0
              ∙ ap (λ (b : Bool). h.facts ∷ shown_in es (facts_by (without_claims part))
              (cond b (p ∷ frames_of es (without_next u logs))
              (frames_of es (without_next u logs)))) shows.1
              ∙ ap (λ (l : List (List Fact)). h.facts ∷ l) later
          entry (Refused t why ∷ more) at own =
              let both : events.Claim s (base + user) pn ≡ events.Claim t (base + u + 1) 0 =
              sym ev ∙ own.0.event in
              let number : pn ≡ 0 = cc both in
              let none : (pn == 0) ≡ true = rw number refl in
              let later = rest (without_next u logs)
              (left-claim h part logs u (Refused t why) more claims others at own.1) in
              ap (λ (b : Bool). claim_if b (frames_of es (without_next u logs))
              ∷ shown_in es (facts_by (without_claims part))
              (behind_if b (frames_of es (without_next u logs)))) none
              ∙ ap (λ (f : List Fact). f ∷ shown_in es (facts_by (without_claims part))
              (frames_of es (without_next u logs))) (sym (plain-here none))
              ∙ ap (λ (l : List (List Fact)). h.facts ∷ l) later
            where
              claim_if : Bool → List Protected → List Fact
              claim_if b frames = cond b (facts.Unclaimed s NoKey ∷ []) (claimed_by frames)

              behind_if : Bool → List Protected → List Protected
              behind_if b frames = cond b frames (without_first frames)

      go : (e : Event) → h.event ≡ counted_from base e
          → ((ls : List (List Entry)) → Left base part ls → Shows part es ls)
          → Goal e (facts_by (without_claims (h ∷ part))) (taken_by e logs ++ frames_of es (left_by e logs))
      go (events.Claim s user pn) ev rest =
          let own = of.0 (ap is_claim ev) in
          let u = own.0 in
          let same : base + user ≡ base + u + 1 = eqb-true (base + user) (base + u + 1)
          (sym (ap (is_claim_for (base + u + 1)) ev) ∙ own.1) in
          let place : u ≡ user - 1 = omega (arith, same) in
          subst (λ i. Goal (events.Claim s user pn) (facts_by (without_claims (h ∷ part)))
          (frame_in (next_entry i logs) ++ frames_of es (without_next i logs))) place
          (subst (λ e. Goal (events.Claim s user pn) (facts_by (without_claims (h ∷ part)))
          (frame_in e ++ frames_of es (without_next u logs))) (sym (next-nth u logs))
          (takes s user pn u ev rest own.1
          (λ v differ. ap (is_claim_for (base + v + 1)) ev
          ∙ ne_eqb (base + user) (base + v + 1) (λ e. differ (omega (arith, e, same))))
          (nth_log u logs) refl))
      go (events.Start name sci priority) ev rest =
          still (events.Start name sci priority) ev rest (λ n. refl) refl
          (λ kept frames later. ap (λ (l : List (List Fact)). h.facts ∷ l) later)
      go (events.Tick s next) ev rest = still (events.Tick s next) ev rest (λ n. refl) refl
          (λ kept frames later. ap (λ (l : List (List Fact)). h.facts ∷ l) later)
      go (events.Deliver frame s) ev rest = still (events.Deliver frame s) ev rest (λ n. refl) refl
          (λ kept frames later. ap (λ (l : List (List Fact)). h.facts ∷ l) later)
      go (events.Restart s) ev rest = still (events.Restart s) ev rest (λ n. refl) refl
          (λ kept frames later. ap (λ (l : List (List Fact)). h.facts ∷ l) later)
      go events.Emit ev rest = still events.Emit ev rest (λ n. refl) refl
          (λ kept frames later. ap (λ (l : List (List Fact)). h.facts ∷ l) later)
      go (events.Inject s octets) ev rest = still (events.Inject s octets) ev rest (λ n. refl) refl
          (λ kept frames later. ap (λ (l : List (List Fact)). h.facts ∷ l) later)

-- What the events of a race show is what its part shows.
pub woven-shown : (base : ℕ) (part steps : List Happening) (es : List Event)
    (logs : List (List Entry)) → map (λ (h : Happening). h.event) part ≡ map (counted_from base) es
    → IsWoven base part steps (logs_of 0 logs) → AllByRecursion IsPlain part
    → shown_in es (facts_by steps) (frames_of es logs) ≡ facts_by part
woven-shown base part steps es logs told woven plain =
    ap (λ (l : List Happening). shown_in es (facts_by l) (frames_of es logs)) (sym woven.control)
    ∙ part-shown base part es logs told woven.no_other plain
    (λ u. subst (λ l. AreClaimsOf base l (filter (λ h. is_claim_for (base + u + 1) h.event) part))
    (nth-logs 0 u logs ∙ ap (λ n. map (attempt_of n) (nth_log u logs)) (plain_zero u))
    (woven.claims u))
  where
    plain_zero : (u : ℕ) → 0 + u ≡ u
    plain_zero u = omega arith
