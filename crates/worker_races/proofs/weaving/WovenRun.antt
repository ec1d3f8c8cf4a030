-- The part that a race gives is woven of control and of the logs.
use Rattle.std.proofs.Common.{◌≡◌, ◌<◌, ℕ, zero, suc, ◌+◌, inl, inr, Bool, true, false, not, cond, eqb, List, [], ◌∷◌, ◌++◌, map, filter, refl, sym, ap, ◌∙◌, subst, arith, append-nil}
use Rattle.lan_base.specs.declared.association_number.AssociationNumber.{AssociationNumber}
use Rattle.std.specs.List.{AllByRecursion}
use Rattle.std.proofs.lemmas.List.Elements.{filter-append}
use Rattle.std.proofs.lemmas.Bool.{eqb-true, eqb-false, eq-eqb, ne_eqb, cases_Bool}
use Rattle.lan_base.specs.declared.frame.UserFrame.{UserFrame}
use Rattle.lan_core.specs.declared.event.Event.{Event}
use Rattle.lan_core.specs.declared.event.Event.TheVariants as events
use Rattle.lan_core.specs.declared.fact.Fact.TheVariants as facts
use Rattle.lan_core.specs.declared.settings.Settings.{Settings}
use Rattle.lan_core.specs.Run.{Run}
use Rattle.lan_core.specs.Lives.{transmitting_at}
use Rattle.lan_core.specs.Expected.{lack}
use Rattle.lan_core.specs.Order.{is_event_of}
use Rattle.worker_races.specs.merge.Places.{Move, Attempt}
use Rattle.worker_races.specs.merge.Marks.{Mark, Control, Claim}
use Rattle.worker_races.specs.merge.inside.Ordered.{AreInOrder, InOrder, is_control, is_of_log}
use Rattle.worker_races.specs.merge.Merged.{AllPairs, InLog, AreLogged, IsFit, numbered, merged, entries_of, nth_log}
use Rattle.worker_races.specs.merge.Raced.{AreMoves, ShowsCore, before_of, claim_after, IsRaced, woven}
use Rattle.worker_races.specs.merge.Weaving.{part_of, is_claim_for, IsClaimOf, AreClaimsOf, IsOfLog, IsWoven}
use Rattle.lan_core.specs.Parts.{followed_by, is_claim}
use Rattle.worker_races.proofs.weaving.Stable.{filter_none, each_weaker}
use Rattle.worker_races.proofs.weaving.Woven.{woven_control, woven_log}
use Rattle.worker_races.proofs.weaving.Legal as places
use Rattle.worker_races.proofs.weaving.Agree.{number-told, none-told}
use Rattle.lan_core.proofs.Public.{transmits-same}
use Rattle.worker_races.proofs.weaving.Stepped.{Agrees, agrees-nil, agrees-control, agrees-claim, claim-key}
use Rattle.worker_races.proofs.weaving.Lawful.{EachClaim, IsGood, head-move}
use Rattle.worker_races.proofs.weaving.Controlled.{control-of, each-entry, all-good}

pub followed-woven : (settings : Settings) (base : ℕ) (zs : List Mark) (r : Run)
    → followed_by (part_of settings base zs r) r ≡ woven settings base zs r
followed-woven settings base [] r = refl
followed-woven settings base (Control n m ∷ zs) r = followed-woven settings base zs (m.x ∷ r)
followed-woven settings base (Claim x ∷ zs) r =
    followed-woven settings base zs (claim_after settings base x r ∷ r)

no-claim : (t : ℕ) (e : Event) → is_event_of t e ≡ true → is_claim e ≡ false
no-claim t (events.Start name sci priority) own = refl
no-claim t (events.Tick station next) own = refl
no-claim t (events.Deliver frame station) own = refl
no-claim t (events.Restart station) own = refl
no-claim t (events.Claim station user pn) own = absurd (cc own)
no-claim t events.Emit own = refl
no-claim t (events.Inject station octets) own = refl

for-none : (t n : ℕ) (e : Event) → is_event_of t e ≡ true → is_claim_for n e ≡ false
for-none t n (events.Start name sci priority) own = refl
for-none t n (events.Tick station next) own = refl
for-none t n (events.Deliver frame station) own = refl
for-none t n (events.Restart station) own = refl
for-none t n (events.Claim station user pn) own = absurd (cc own)
for-none t n events.Emit own = refl
for-none t n (events.Inject station octets) own = refl

-- the user frames of two logs differ
same-log : (base l u : ℕ) → eqb (base + l + 1) (base + u + 1) ≡ eqb l u
same-log base l u = elim (cases_Bool (eqb l u)) [
  | inl same ↦ eq-eqb _ _ (let e = eqb-true l u same in omega arith) ∙ sym same
  | inr other ↦ ne_eqb _ _ (λ e. eqb-false l u other (omega (arith, e))) ∙ sym other
]

module _ (settings : Settings) (users : List UserFrame) (base : ℕ) (ans : ℕ → ℕ → AssociationNumber) (pointed : ℕ → ℕ) (r : Run) where
  -- what is no claim is control's
  part-control : (zs : List Mark) (q c : Run) (k : ℕ) (ms : List Move) → filter is_control zs ≡ numbered k ms
      → AreMoves settings users ans c ms
      → filter (λ h. not (is_claim h.event)) (part_of settings base zs q) ≡ map (λ m. m.x) ms
  unfolding numbered
  part-control [] q c k [] left moves = refl
  part-control [] q c k (m ∷ ms) left moves = absurd (cc left)
  part-control (Claim x ∷ zs) q c k ms left moves =
      part-control zs (claim_after settings base x q ∷ q) c k ms left moves
  part-control (Control n m ∷ zs) q c k ms left moves =
      let next = head-move n k m zs ms left in
      let all = subst (AreMoves settings users ans c) next.1 moves in
      rw (no-claim m.station m.x.event all.0.own, next.1)
      (ap (λ hs. m.x ∷ hs) (part-control zs (m.x ∷ q) (m.x ∷ c) (suc k) next.0 next.2 all.2))

  -- each claim is for the user frame of a log
  part-users : (zs : List Mark) (q c : Run) (k : ℕ) (ms : List Move) → filter is_control zs ≡ numbered k ms
      → AreMoves settings users ans c ms → AllByRecursion (IsOfLog base) (part_of settings base zs q)
  unfolding numbered
  part-users [] q c k ms left moves = tt
  part-users (Claim x ∷ zs) q c k ms left moves =
      (λ claim. (x.log, eq-eqb (base + x.log + 1) (base + x.log + 1) refl), part-users zs (claim_after settings base x q ∷ q) c k ms left moves)
  part-users (Control n m ∷ zs) q c k [] left moves = absurd (cc left)
  part-users (Control n m ∷ zs) q c k (i ∷ ms) left moves =
      let next = head-move n k m zs (i ∷ ms) left in
      let all = subst (AreMoves settings users ans c) next.1 moves in
      (λ claim. absurd (let no = no-claim m.station m.x.event all.0.own in cc (no, claim)), part-users zs (m.x ∷ q) (m.x ∷ c) (suc k) next.0 next.2 all.2)

  -- a claim tells of its attempt
  tells : (zs past : List Mark) (q c : Run) (x : Attempt) → ShowsCore settings ans c → Agrees settings r past q c
      → IsGood settings users base ans pointed r x → InOrder (before_of settings pointed r) past (Claim x) zs
      → IsClaimOf base x (claim_after settings base x q)
  tells zs past q c x shows a good order = record {
    event = refl;
    taken = λ taken. (let key = claim-key settings users base ans r pointed past zs q c x a good.0 order taken (good.1 taken) in
        let told = number-told settings x.station x.number q (transmitting_at settings x.station q) key.0 (good.0.taken taken).0 key.1 in
        let core = (shows x.station key.0 (sym (transmits-same settings q c a.seen x.station) ∙ key.1)).1 in
        let an : key.0.an ≡ x.an = core ∙ (ap (ans x.station) key.2 ∙ sym (good.0.taken taken).2) in
        ap (λ f. f ∷ []) (told ∙ (ap (λ v. facts.Claimed x.station v key.0.epoch x.number) an ∙ ap (λ v. facts.Claimed x.station x.an v x.number) key.2)));
    none = λ refused. (
      lack settings x.station q (transmitting_at settings x.station q),
      ap (λ f. f ∷ []) (none-told settings x.station x.number q (transmitting_at settings x.station q) (good.0.none refused)),
    );
  }

  part-claims : (u : ℕ) (zs past : List Mark) (q c : Run) (k : ℕ) (ms : List Move) (es : List Attempt)
      → filter is_control zs ≡ numbered k ms → AreMoves settings users ans c ms → ShowsCore settings ans c
      → Agrees settings r past q c → AllByRecursion (EachClaim (IsGood settings users base ans pointed r)) zs
      → AreInOrder (before_of settings pointed r) past zs → filter (is_of_log u) zs ≡ map Claim es
      → AreClaimsOf base es (filter (λ h. is_claim_for (base + u + 1) h.event) (part_of settings base zs q))
  part-claims u [] past q c k ms [] left moves shows a good order of = tt
  part-claims u [] past q c k ms (x ∷ es) left moves shows a good order of = absurd (cc of)
  part-claims u (Control n m ∷ zs) past q c k ms es left moves shows a good order of =
      let next = head-move n k m zs ms left in
      let all = subst (AreMoves settings users ans c) next.1 moves in
      rw (for-none m.station (base + u + 1) m.x.event all.0.own)
      (part-claims u zs (Control n m ∷ past) (m.x ∷ q) (m.x ∷ c) (suc k) next.0 es next.2 all.2 all.1
      (agrees-control settings users base ans r past q c n m a all.0) good.1 order.1 of)
  part-claims u (Claim x ∷ zs) past q c k ms es left moves shows a good order of =
      rw (same-log base x.log u) (go (λ es of. part-claims u zs (Claim x ∷ past) (claim_after settings base x q ∷ q) c k ms es left moves shows
      (agrees-claim settings users base ans r pointed past zs q c x a good.0.0 good.0.1 order.0) good.1 order.1 of) (eqb x.log u) es of)
    where
      go : ((es : List Attempt) → filter (is_of_log u) zs ≡ map Claim es
          → AreClaimsOf base es (filter (λ h. is_claim_for (base + u + 1) h.event) (part_of settings base zs (claim_after settings base x q ∷ q))))
          → (b : Bool) (es : List Attempt) → cond b (Claim x ∷ filter (is_of_log u) zs) (filter (is_of_log u) zs) ≡ map Claim es
          → AreClaimsOf base es (cond b (claim_after settings base x q ∷ filter (λ h. is_claim_for (base + u + 1) h.event) (part_of settings base zs (claim_after settings base x q ∷ q)))
          (filter (λ h. is_claim_for (base + u + 1) h.event) (part_of settings base zs (claim_after settings base x q ∷ q))))
      go later false es of = later es of
      go later true [] of = absurd (cc of)
      go later true (y ∷ es) of =
          let same : x ≡ y = cc of in
          (subst (λ v. IsClaimOf base v (claim_after settings base x q)) same (tells zs past q c x shows a good.0 order.0), later es (cc of))

-- ---- the entries of one log, among all

kept_all : {X : Type 0} (p : X → Bool) (xs : List X) → AllByRecursion (λ x. p x ≡ true) xs → filter p xs ≡ xs
kept_all p [] all = refl
kept_all p (x ∷ xs) all = rw (all.0, kept_all p xs all.1) refl

none_of : (u n : ℕ) (logs : List (List Attempt)) → u < n → AreLogged n logs → filter (λ x. eqb x.log u) (entries_of logs) ≡ []
unfolding entries_of
none_of u n [] lt h = refl
none_of u n (log ∷ logs) lt h =
    filter-append (λ x. eqb x.log u) log (entries_of logs)
    ∙ (ap (λ l. l ++ filter (λ x. eqb x.log u) (entries_of logs)) (filter_none (λ x. eqb x.log u) log (each_weaker (λ (x : Attempt). x.log ≡ n) (λ x. eqb x.log u ≡ false) (λ x e. ne_eqb _ _ (λ q. omega arith)) log h.0))
    ∙ none_of u (suc n) logs (omega arith) h.1)

pub log_of : (u n : ℕ) (logs : List (List Attempt)) → AreLogged n logs → filter (λ x. eqb x.log (u + n)) (entries_of logs) ≡ nth_log u logs
unfolding entries_of
log_of u n [] h = refl
log_of zero n (log ∷ logs) h =
    filter-append (λ x. eqb x.log (0 + n)) log (entries_of logs)
    ∙ (ap (λ l. l ++ filter (λ x. eqb x.log (0 + n)) (entries_of logs)) (kept_all (λ x. eqb x.log (0 + n)) log (each_weaker (λ (x : Attempt). x.log ≡ n) (λ x. eqb x.log (0 + n) ≡ true) (λ x e. eq-eqb _ _ (omega arith)) log h.0))
    ∙ (ap (λ l. log ++ l) (none_of (0 + n) (suc n) logs (omega arith) h.1) ∙ append-nil log))
log_of (suc u) n (log ∷ logs) h =
    filter-append (λ x. eqb x.log (suc u + n)) log (entries_of logs)
    ∙ (ap (λ l. l ++ filter (λ x. eqb x.log (suc u + n)) (entries_of logs)) (filter_none (λ x. eqb x.log (suc u + n)) log (each_weaker (λ (x : Attempt). x.log ≡ n) (λ x. eqb x.log (suc u + n) ≡ false) (λ x e. ne_eqb _ _ (λ q. omega arith)) log h.0))
    ∙ (ap (λ m. filter (λ x. eqb x.log m) (entries_of logs)) (over u n) ∙ log_of u (suc n) logs h.1))
  where
    over : (u n : ℕ) → suc u + n ≡ u + suc n
    over u n = omega arith

nth_each : (P : List Attempt → Type 0) → P [] → (u : ℕ) (logs : List (List Attempt)) → AllByRecursion P logs → P (nth_log u logs)
nth_each P e u [] h = e
nth_each P e zero (log ∷ logs) h = h.0
nth_each P e (suc u) (log ∷ logs) h = nth_each P e u logs h.1

-- The part that a race gives is woven.
pub race-woven : (settings : Settings) (users : List UserFrame) (base : ℕ) (ans : ℕ → ℕ → AssociationNumber) (pointed : ℕ → ℕ) (r : Run)
    (ms : List Move) (logs : List (List Attempt)) → IsRaced settings users base ans pointed r ms logs
    → IsWoven base (part_of settings base (merged ms (entries_of logs)) r) (map (λ m. m.x) ms) logs
race-woven settings users base ans pointed r ms logs race =
    let R = before_of settings pointed r in
    let control = control-of settings users base ans pointed r ms logs race in
    let es = entries_of logs in
    let left = woven_control R ms control es in
    let order = places.legal R ms control es (each-entry settings users base ans pointed r _ logs race.fit) race.differ in
    record {
      control = part-control settings users base ans pointed r (merged ms es) r r 0 ms left race.moves;
      claims = λ u.
          let e : filter (λ x. eqb x.log u) es ≡ nth_log u logs = ap (λ m. filter (λ x. eqb x.log m) es) (plus u) ∙ log_of u 0 logs race.logged in
          part-claims settings users base ans pointed r u (merged ms es) [] r r 0 ms (nth_log u logs) left race.moves race.shows
          (agrees-nil settings r) (all-good settings users base ans pointed r ms logs race) order
          (woven_log R ms control u es (subst (AllByRecursion (IsFit R ms)) (sym e) (nth_each _ tt u logs race.fit)) (subst (AllPairs InLog) (sym e) (nth_each _ tt u logs race.in_log))
          ∙ ap (map Claim) e);
      no_other = part-users settings users base ans pointed r (merged ms es) r r 0 ms left race.moves;
    }
  where
    plus : (u : ℕ) → u ≡ u + 0
    plus u = omega arith
