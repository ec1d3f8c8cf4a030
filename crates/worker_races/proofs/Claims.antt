-- The packet numbers that a run with a part tells of a station: those before, and those that the
-- part's claims got, which are those of the logs.
use Rattle.std.proofs.Common.{◌≡◌, ◌≤◌, ◌<◌, ◌+◌, ◌==◌, ◌&&◌, ℕ, zero, suc, max, Bool, true, false, cond, List, [], ◌∷◌, length, map, filter}
use Rattle.std.proofs.Common.{refl, sym, ap, ◌∙◌, subst, arith, inl, inr}
use Rattle.std.proofs.lemmas.Bool.{cases_Bool, cases_lt, eqb-true, eqb-false, ne_eqb}
use Rattle.std.specs.List.{AllByRecursion}
use Rattle.lan_base.specs.declared.frame.UserFrame.{UserFrame}
use Rattle.association_slots.specs.Views.{one, weigh}
use Rattle.data_workers.specs.declared.entry.Entry.{Entry}
use Rattle.data_workers.specs.declared.entry.Entry.TheVariants.{Taken, Refused}
use Rattle.lan_core.specs.declared.event.Event.{Event}
use Rattle.lan_core.specs.declared.event.Event.TheVariants as events
use Rattle.lan_core.specs.declared.fact.Fact.{Fact}
use Rattle.lan_core.specs.declared.fact.Fact.TheVariants as facts
use Rattle.lan_core.specs.declared.settings.Settings.{Settings}
use Rattle.lan_core.specs.Run.{Run, Happening}
use Rattle.lan_core.specs.Ledgers.{Claim, claim_of, claims, gather}
use Rattle.lan_core.specs.Lives.{transmitting_at}
use Rattle.lan_core.specs.Claims.{after_claim, next, shown_by}
use Rattle.lan_core.specs.Expected.{claim_fact}
use Rattle.lan_core.specs.Legal.{IsStep, IsStepped}
use Rattle.lan_core.specs.Parts.{AreAlike, followed_by, is_claim, without_claims}
use Rattle.lan_core.proofs.Public.{IsClaim, TellsClaim, is-claim, tells-claim, alike-event, claim-alike, stepped-front}
use Rattle.group_safety.specs.Accounts.{numbers_at, shows_at, shown_at}
use Rattle.group_safety.proofs.Public.{claims-by, kind}
use Rattle.station_words.specs.Counting.{past_claims, times_in}
use Rattle.worker_races.specs.merge.Merged.{nth_log}
use Rattle.worker_races.specs.merge.Steps.{attempt_of, logs_of}
use Rattle.worker_races.specs.merge.Weaving.{AreClaimsOf, IsOfLog, is_claim_for}
use Rattle.worker_races.specs.merge.Worked.{times_in as times_in_log, times_in_all}
use Rattle.worker_races.proofs.weaving.Thrift.{adds-none}
use Rattle.worker_races.proofs.weaving.Agree.{shown-same}

-- ---- what one event tells

claims-are : (x : Happening) (q : Run) → claims (x ∷ q) ≡ gather claim_of x.facts (claims q)
unfolding claims
claims-are x q = refl

next-is : (settings : Settings) (s e : ℕ) (x : Happening) (q : Run)
    → next settings s e (x ∷ q) ≡ max (shown_by settings s e q x.facts x.event) (next settings s e q)
unfolding next
next-is settings s e x q = refl

past-first : (s e : ℕ) → past_claims e (numbers_at s (claims [])) ≡ 0
unfolding claims
past-first s e = refl

-- an event that is no claim tells of none
none-told : (settings : Settings) (users : List UserFrame) (x : Happening) (q : Run) → IsStep settings users x q
    → is_claim x.event ≡ false → (cs : List Claim) → gather claim_of x.facts cs ≡ cs
none-told settings users x q step other cs = adds-none x.facts cs (λ s an epoch pn i.
    let by = claims-by settings users q x.event x.facts s an epoch pn (kind settings users x q step) i in
    cc (sym other ∙ ap is_claim by.event))

-- the fact of a claim
told-by : (settings : Settings) (users : List UserFrame) (x : Happening) (q : Run) → IsStep settings users x q
    → is_claim x.event ≡ true → (fact : Fact) × TellsClaim fact × (x.facts ≡ fact ∷ [])
    × ((s e : ℕ) → shown_by settings s e q x.facts x.event ≡ after_claim s e x.facts)
told-by settings users x q step claim = go x.event refl (is-claim settings users q x.event x.facts step.shows) claim
  where
    go : (f : Event) → f ≡ x.event → IsClaim settings q x.facts f → is_claim f ≡ true
        → (fact : Fact) × TellsClaim fact × (x.facts ≡ fact ∷ [])
        × ((s e : ℕ) → shown_by settings s e q x.facts x.event ≡ after_claim s e x.facts)
    go (events.Claim t user n) same told is = (
      claim_fact settings t q n (transmitting_at settings t q),
      tells-claim settings t n q (transmitting_at settings t q),
      sym told,
      λ s e. ap (shown_by settings s e q x.facts) (sym same),
    )
    go (events.Start name sci priority) same told is = absurd (cc is)
    go (events.Tick t n) same told is = absurd (cc is)
    go (events.Deliver frame t) same told is = absurd (cc is)
    go (events.Restart t) same told is = absurd (cc is)
    go events.Emit same told is = absurd (cc is)
    go (events.Inject t octets) same told is = absurd (cc is)

-- the numbers that facts tell of a station
made : ℕ → List Fact → List (ℕ × ℕ)
made s shown = numbers_at s (gather claim_of shown [])

past-fact : (s e : ℕ) (fact : Fact) (cs : List Claim) → TellsClaim fact
    → past_claims e (numbers_at s (gather claim_of (fact ∷ []) cs))
    ≡ max (after_claim s e (fact ∷ [])) (past_claims e (numbers_at s cs))
past-fact s e (facts.Claimed t an epoch pn) cs tells = go (t == s)
  where
    go : (a : Bool) → past_claims e (cond a ((epoch, pn) ∷ numbers_at s cs) (numbers_at s cs))
        ≡ max (cond (a && (epoch == e)) (pn + 1) 0) (past_claims e (numbers_at s cs))
    go true = refl
    go false = omega arith
past-fact s e (facts.Unclaimed t why) cs tells = omega arith
past-fact s e fact cs tells = absurd tells

times-fact : (s e pn : ℕ) (fact : Fact) (cs : List Claim) → TellsClaim fact
    → times_in e pn (numbers_at s (gather claim_of (fact ∷ []) cs))
    ≡ times_in e pn (made s (fact ∷ [])) + times_in e pn (numbers_at s cs)
unfolding made
times-fact s e pn (facts.Claimed t an epoch n) cs tells = go (t == s)
  where
    go : (a : Bool) → times_in e pn (cond a ((epoch, n) ∷ numbers_at s cs) (numbers_at s cs))
        ≡ times_in e pn (cond a ((epoch, n) ∷ []) []) + times_in e pn (numbers_at s cs)
    go true = omega arith
    go false = omega arith
times-fact s e pn (facts.Unclaimed t why) cs tells = omega arith
times-fact s e pn fact cs tells = absurd tells

module _ (settings : Settings) (users : List UserFrame) where
  past-claim : (s e : ℕ) (x : Happening) (q : Run) → IsStep settings users x q → is_claim x.event ≡ true
      → past_claims e (numbers_at s (claims (x ∷ q)))
      ≡ max (shown_by settings s e q x.facts x.event) (past_claims e (numbers_at s (claims q)))
  past-claim s e x q step claim =
      let told = told-by settings users x q step claim in
      ap (λ cs. past_claims e (numbers_at s cs)) (claims-are x q)
      ∙ (ap (λ shown. past_claims e (numbers_at s (gather claim_of shown (claims q)))) told.2
      ∙ (past-fact s e told.0 (claims q) told.1
      ∙ ap (λ n. max n (past_claims e (numbers_at s (claims q)))) (ap (after_claim s e) (sym told.2) ∙ sym (told.3 s e))))

  claims-other : (x : Happening) (q : Run) → IsStep settings users x q → is_claim x.event ≡ false → claims (x ∷ q) ≡ claims q
  claims-other x q step other = claims-are x q ∙ none-told settings users x q step other (claims q)

  times-one : (s e pn : ℕ) (x : Happening) (q : Run) → IsStep settings users x q
      → times_in e pn (numbers_at s (claims (x ∷ q))) ≡ times_in e pn (made s x.facts) + times_in e pn (numbers_at s (claims q))
  unfolding made
  times-one s e pn x q step = elim (cases_Bool (is_claim x.event)) [
    | inl claim ↦ (let told = told-by settings users x q step claim in
        ap (λ cs. times_in e pn (numbers_at s cs)) (claims-are x q)
        ∙ (ap (λ shown. times_in e pn (numbers_at s (gather claim_of shown (claims q)))) told.2
        ∙ (times-fact s e pn told.0 (claims q) told.1
        ∙ ap (λ shown. times_in e pn (numbers_at s (gather claim_of shown [])) + times_in e pn (numbers_at s (claims q))) (sym told.2))))
    | inr other ↦ (let none = ap (λ cs. times_in e pn (numbers_at s cs)) (none-told settings users x q step other []) in
        let same = ap (λ cs. times_in e pn (numbers_at s cs)) (claims-other x q step other) in omega (arith, none, same))
  ]

  -- what is past the claims is not above the next number
  pub past-low : (s e : ℕ) (q : Run) → IsStepped settings users q → past_claims e (numbers_at s (claims q)) ≤ next settings s e q
  past-low s e [] stepped = let none = past-first s e in omega (arith, none)
  past-low s e (x ∷ q) stepped =
      let rest = past-low s e q stepped.1 in
      let more = next-is settings s e x q in
      elim (cases_Bool (is_claim x.event)) [
        | inl claim ↦ (let past = past-claim s e x q stepped.0 claim in omega (arith, rest, more, past))
        | inr other ↦ (let same = ap (λ cs. past_claims e (numbers_at s cs)) (claims-other x q stepped.0 other) in omega (arith, rest, more, same))
      ]

  -- ---- a part, beside the run without its claims

  pub record Beside (s : ℕ) (q c : Run) : Type 0 where
    pub shows : shows_at s q ≡ shows_at s c
    pub less : (e : ℕ) → past_claims e (numbers_at s (claims c)) ≤ past_claims e (numbers_at s (claims q))
    pub nexts : (e : ℕ) → next settings s e q ≡ max (next settings s e c) (past_claims e (numbers_at s (claims q)))

  pub beside-itself : (s : ℕ) (q : Run) → IsStepped settings users q → Beside s q q
  beside-itself s q stepped = record {
    shows = refl;
    less = λ e. omega arith;
    nexts = λ e. (let low = past-low s e q stepped in omega (arith, low));
  }

  shown-none : (s : ℕ) (f : Event) (ns : List ℕ) → is_claim f ≡ true → shown_at s f ns ≡ ns
  shown-none s (events.Claim t user n) ns is = refl
  shown-none s (events.Start name sci priority) ns is = absurd (cc is)
  shown-none s (events.Tick t n) ns is = absurd (cc is)
  shown-none s (events.Deliver frame t) ns is = absurd (cc is)
  shown-none s (events.Restart t) ns is = absurd (cc is)
  shown-none s events.Emit ns is = absurd (cc is)
  shown-none s (events.Inject t octets) ns is = absurd (cc is)

  beside-claim : (s : ℕ) (x : Happening) (q c : Run) → IsStep settings users x q → is_claim x.event ≡ true → Beside s q c
      → Beside s (x ∷ q) c
  beside-claim s x q c step claim b = record {
    shows = shown-none s x.event (shows_at s q) claim ∙ b.shows;
    less = λ e. (let past = past-claim s e x q step claim in let low = b.less e in omega (arith, past, low));
    nexts = λ e. (let past = past-claim s e x q step claim in let is = b.nexts e in
        let more = next-is settings s e x q in omega (arith, past, is, more));
  }

  beside-other : (s : ℕ) (x : Happening) (q c : Run) → IsStep settings users x q → is_claim x.event ≡ false
      → AreAlike settings q c → Beside s q c → Beside s (x ∷ q) (x ∷ c)
  beside-other s x q c step other alike b = record {
    shows = ap (shown_at s x.event) b.shows;
    less = λ e. (let here = past-same e q in let there = past-same e c in let low = b.less e in omega (arith, here, there, low));
    nexts = λ e. (let here = past-same e q in let is = b.nexts e in
        let shown = shown-same settings q c alike s e x.facts x.event in
        let more = next-is settings s e x q in let then = next-is settings s e x c in omega (arith, here, is, shown, more, then));
  }
    where
      past-same : (e : ℕ) (p : Run) → past_claims e (numbers_at s (claims (x ∷ p))) ≡ past_claims e (numbers_at s (claims p))
      past-same e p = ap (λ cs. past_claims e (numbers_at s cs)) (claims-are x p ∙ none-told settings users x q step other (claims p))

  pub beside-part : (s : ℕ) (part : List Happening) (q c : Run) → IsStepped settings users (followed_by part q)
      → AreAlike settings q c → Beside s q c → Beside s (followed_by part q) (followed_by (without_claims part) c)
  beside-part s [] q c stepped alike b = b
  beside-part s (x ∷ part) q c stepped alike b =
      let step = (stepped-front settings users part (x ∷ q) stepped).0 in
      elim (cases_Bool (is_claim x.event)) [
        | inl claim ↦ rw claim (beside-part s part (x ∷ q) c stepped
            (claim-alike settings users x q c step claim alike) (beside-claim s x q c step claim b))
        | inr other ↦ rw other (beside-part s part (x ∷ q) (x ∷ c) stepped (alike-event settings q c alike x)
            (beside-other s x q c step other alike b))
      ]

  -- ---- the numbers of a part's claims are those of the logs

  module _ (base s e pn : ℕ) where
    -- how often an event got the number
    got : Happening → ℕ
    got h = times_in e pn (made s h.facts)

    times-part : (part : List Happening) (q : Run) → IsStepped settings users (followed_by part q)
        → times_in e pn (numbers_at s (claims (followed_by part q))) ≡ weigh got part + times_in e pn (numbers_at s (claims q))
    unfolding got
    times-part [] q stepped = omega arith
    times-part (x ∷ part) q stepped =
        let rest = times-part part (x ∷ q) stepped in
        let here = times-one s e pn x q (stepped-front settings users part (x ∷ q) stepped).0 in
        omega (arith, rest, here)

    -- the claims for the user frames of so many logs
    abbrev of_log : ℕ → List Happening → List Happening
    of_log u part = filter (λ h. is_claim_for (base + u + 1) h.event) part

    total : ℕ → ℕ → List Happening → ℕ
    total u zero part = 0
    total u (suc n) part = weigh got (of_log u part) + total (suc u) n part

    extra : ℕ → ℕ → Happening → ℕ
    extra u zero h = 0
    extra u (suc n) h = cond (is_claim_for (base + u + 1) h.event) (got h) 0 + extra (suc u) n h

    total-none : (u n : ℕ) → total u n [] ≡ 0
    unfolding total
    total-none u zero = refl
    total-none u (suc n) = let rest = total-none (suc u) n in omega (arith, rest)

    total-more : (u n : ℕ) (h : Happening) (part : List Happening) → total u n (h ∷ part) ≡ extra u n h + total u n part
    unfolding total extra
    total-more u zero h part = omega arith
    total-more u (suc n) h part = go (is_claim_for (base + u + 1) h.event) (total-more (suc u) n h part)
      where
        go : (b : Bool) → total (suc u) n (h ∷ part) ≡ extra (suc u) n h + total (suc u) n part
            → weigh got (cond b (h ∷ of_log u part) (of_log u part)) + total (suc u) n (h ∷ part)
            ≡ (cond b (got h) 0 + extra (suc u) n h) + (weigh got (of_log u part) + total (suc u) n part)
        go true rest = omega (arith, rest)
        go false rest = omega (arith, rest)

    extra-none : (u n : ℕ) (h : Happening) → ((v : ℕ) → u ≤ v → is_claim_for (base + v + 1) h.event ≡ false) → extra u n h ≡ 0
    unfolding extra
    extra-none u zero h none = refl
    extra-none u (suc n) h none =
        let here = none u (omega arith) in
        let rest = extra-none (suc u) n h (λ v high. none v (omega (arith, high))) in
        rw here (omega (arith, rest))

    extra-one : (u n v : ℕ) (h : Happening) → u ≤ v → v < u + n → is_claim_for (base + v + 1) h.event ≡ true
        → ((w : ℕ) → (w ≡ v → ⊥) → is_claim_for (base + w + 1) h.event ≡ false) → extra u n h ≡ got h
    unfolding extra
    extra-one u zero v h low high is others = absurd (omega (arith, low, high))
    extra-one u (suc n) v h low high is others = elim (cases_Bool (u == v)) [
      | inl same ↦ (let at = eqb-true u v same in
          let here = subst (λ w. is_claim_for (base + w + 1) h.event ≡ true) (sym at) is in
          let rest = extra-none (suc u) n h (λ w more. others w (λ z. omega (arith, more, at, z))) in
          rw here (omega (arith, rest)))
      | inr other ↦ (let apart = eqb-false u v other in
          let here = others u apart in
          let rest = extra-one (suc u) n v h (more apart) (omega (arith, high)) is others in
          rw here (omega (arith, rest)))
    ]
      where
        more : (u ≡ v → ⊥) → suc u ≤ v
        more apart = elim (cases_lt u v) [ inl l ↦ omega (arith, l) | inr h ↦ absurd (apart (omega (arith, low, h))) ]

    -- a claim is for one user frame
    one-user : (f : Event) (m n : ℕ) → is_claim_for m f ≡ true → (n ≡ m → ⊥) → is_claim_for n f ≡ false
    one-user (events.Claim t user k) m n is apart = ne_eqb user n (λ same. apart (sym same ∙ eqb-true user m is))
    one-user (events.Start name sci priority) m n is apart = refl
    one-user (events.Tick t k) m n is apart = refl
    one-user (events.Deliver frame t) m n is apart = refl
    one-user (events.Restart t) m n is apart = refl
    one-user events.Emit m n is apart = refl
    one-user (events.Inject t octets) m n is apart = refl

    not-for : (f : Event) (n : ℕ) → is_claim f ≡ false → is_claim_for n f ≡ false
    not-for (events.Claim t user k) n other = absurd (cc other)
    not-for (events.Start name sci priority) n other = refl
    not-for (events.Tick t k) n other = refl
    not-for (events.Deliver frame t) n other = refl
    not-for (events.Restart t) n other = refl
    not-for events.Emit n other = refl
    not-for (events.Inject t octets) n other = refl

    extra-is : (n : ℕ) (h : Happening) (q : Run) → IsStep settings users h q → IsOfLog base h
        → ((v : ℕ) → n ≤ v → is_claim_for (base + v + 1) h.event ≡ false) → extra 0 n h ≡ got h
    unfolding got made
    extra-is n h q step of beyond = elim (cases_Bool (is_claim h.event)) [
      | inr other ↦ (let none = extra-none 0 n h (λ v low. not-for h.event (base + v + 1) other) in
          let told = ap (λ cs. times_in e pn (numbers_at s cs)) (none-told settings users h q step other []) in
          omega (arith, none, told))
      | inl claim ↦ (let u = of claim in extra-one 0 n u.0 h (omega arith) (inside u.0 u.1) u.1
          (λ w apart. one-user h.event (base + u.0 + 1) (base + w + 1) u.1 (λ same. apart (omega (arith, same)))))
    ]
      where
        inside : (u : ℕ) → is_claim_for (base + u + 1) h.event ≡ true → u < 0 + n
        inside u is = elim (cases_lt u n) [ inl l ↦ omega (arith, l) | inr high ↦ absurd (cc (sym (beyond u high) ∙ is)) ]

    total-is : (n : ℕ) (part : List Happening) (q : Run) → IsStepped settings users (followed_by part q)
        → AllByRecursion (IsOfLog base) part → ((v : ℕ) → n ≤ v → of_log v part ≡ []) → total 0 n part ≡ weigh got part
    total-is n [] q stepped of beyond = total-none 0 n
    total-is n (h ∷ part) q stepped of beyond =
        let more = total-more 0 n h part in
        let here = extra-is n h q (stepped-front settings users part (h ∷ q) stepped).0 of.0 (λ v high. (first v (beyond v high)).0) in
        let rest = total-is n part (h ∷ q) stepped of.1 (λ v high. (first v (beyond v high)).1) in
        omega (arith, more, here, rest)
      where
        first : (v : ℕ) → of_log v (h ∷ part) ≡ [] → (is_claim_for (base + v + 1) h.event ≡ false) × (of_log v part ≡ [])
        first v none = go (is_claim_for (base + v + 1) h.event) none
          where
            go : (b : Bool) → cond b (h ∷ of_log v part) (of_log v part) ≡ [] → (b ≡ false) × (of_log v part ≡ [])
            go true none = absurd (cc none)
            go false none = (refl, none)

    -- the claims of one log
    got-log : (u : ℕ) (log : List Entry) (hs : List Happening) → AreClaimsOf base (map (attempt_of u) log) hs
        → weigh got hs ≡ times_in_log s e pn log
    unfolding got made
    got-log u [] [] are = refl
    got-log u [] (h ∷ hs) are = absurd are
    got-log u (x ∷ log) [] are = absurd are
    got-log u (Taken p ∷ log) (h ∷ hs) are =
        let rest = got-log u log hs are.1 in
        let told = ap (λ shown. times_in e pn (numbers_at s (gather claim_of shown []))) (are.0.taken refl) in
        go (p.station == s) rest told
      where
        go : (b : Bool) → weigh got hs ≡ times_in_log s e pn log
            → times_in e pn (numbers_at s (gather claim_of h.facts [])) ≡ times_in e pn (cond b ((p.epoch, p.pn) ∷ []) [])
            → times_in e pn (numbers_at s (gather claim_of h.facts [])) + weigh got hs
            ≡ one (b && ((p.epoch == e) && (p.pn == pn))) + times_in_log s e pn log
        go true rest told = omega (arith, rest, told)
        go false rest told = omega (arith, rest, told)
    got-log u (Refused t why ∷ log) (h ∷ hs) are =
        let rest = got-log u log hs are.1 in
        let told = ap (λ shown. times_in e pn (numbers_at s (gather claim_of shown []))) (are.0.none refl).1 in
        omega (arith, rest, told)

    total-logs : (u : ℕ) (logs : List (List Entry)) (part : List Happening)
        → ((k : ℕ) → AreClaimsOf base (nth_log k (logs_of u logs)) (of_log (u + k) part))
        → total u (length logs) part ≡ times_in_all s e pn logs
    unfolding total
    total-logs u [] part claims = refl
    total-logs u (log ∷ logs) part claims =
        let here = got-log u log (of_log u part)
        (subst (λ n. AreClaimsOf base (map (attempt_of u) log) (of_log n part)) (plus u) (claims 0)) in
        let rest = total-logs (suc u) logs part
        (λ k. subst (λ n. AreClaimsOf base (nth_log k (logs_of (suc u) logs)) (of_log n part)) (over u k) (claims (suc k))) in
        omega (arith, here, rest)
      where
        plus : (u : ℕ) → u + 0 ≡ u
        plus u = omega arith

        over : (u k : ℕ) → u + suc k ≡ suc u + k
        over u k = omega arith

    no-log : (k u : ℕ) (logs : List (List Entry)) → length logs ≤ k → nth_log k (logs_of u logs) ≡ []
    no-log k u [] past = refl
    no-log zero u (log ∷ logs) past = absurd (omega (arith, past))
    no-log (suc k) u (log ∷ logs) past = no-log k (suc u) logs (omega (arith, past))

    none-of : (hs : List Happening) → AreClaimsOf base [] hs → hs ≡ []
    none-of [] are = refl
    none-of (h ∷ hs) are = absurd are

    pub times-woven : (logs : List (List Entry)) (part : List Happening) (q : Run) → IsStepped settings users (followed_by part q)
        → ((u : ℕ) → AreClaimsOf base (nth_log u (logs_of 0 logs)) (of_log u part)) → AllByRecursion (IsOfLog base) part
        → times_in e pn (numbers_at s (claims (followed_by part q)))
        ≡ times_in_all s e pn logs + times_in e pn (numbers_at s (claims q))
    times-woven logs part q stepped claims of =
        let all = times-part part q stepped in
        let sum = total-is (length logs) part q stepped of
        (λ v high. none-of (of_log v part) (subst (λ xs. AreClaimsOf base xs (of_log v part)) (no-log v 0 logs high) (claims v))) in
        let each = total-logs 0 logs part
        (λ k. subst (λ n. AreClaimsOf base (nth_log k (logs_of 0 logs)) (of_log n part)) (plus k) (claims k)) in
        omega (arith, all, sum, each)
      where
        plus : (k : ℕ) → k ≡ 0 + k
        plus k = omega arith
