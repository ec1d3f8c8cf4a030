-- The run with the merged list behind it is thrifty where few numbers are unused at its end: what is
-- claimed later is never below the next number.
use Rattle.std.proofs.Common.{◌≡◌, ◌≢◌, ◌⊎◌, ◌<◌, ◌≤◌, ◌+◌, ◌-◌, ℕ, zero, suc, Bool, true, false, not, cond, ◌&&◌, eqb}
use Rattle.lan_base.specs.declared.association_number.AssociationNumber.{AssociationNumber}
use Rattle.std.proofs.Common.{List, [], ◌∷◌, length, refl, sym, ◌∙◌, subst, arith, inl, inr}
use Rattle.std.proofs.Common.{filter}
use Rattle.std.specs.List.{AllByRecursion, list_any, range_with_len}
use Rattle.std.proofs.lemmas.Bool.{eqb-true, cases_Bool, and_parts}
use Rattle.lan_base.specs.declared.frame.UserFrame.{UserFrame}
use Rattle.lan_core.specs.declared.event.Event.{Event}
use Rattle.lan_core.specs.declared.event.Event.TheVariants as events
use Rattle.lan_core.specs.declared.fact.Fact.{Fact}
use Rattle.lan_core.specs.declared.fact.Fact.TheVariants as facts
use Rattle.lan_core.specs.declared.settings.Settings.{Settings}
use Rattle.lan_core.specs.Run.{Run}
use Rattle.lan_core.specs.Ledgers.{Claim as Number, claim_of, claims, gather}
use Rattle.lan_core.specs.Lives.{transmitting_at}
use Rattle.lan_core.specs.Claims.{next}
use Rattle.lan_core.specs.Order.{is_event_of}
use Rattle.lan_core.specs.Legal.{IsThrifty, is_unused, is_claim_of, unused}
use Rattle.lan_core.proofs.Public.{never-falls}
use Rattle.group_safety.proofs.Public.{In}
use Rattle.group_safety.proofs.Public.{kind}
use Rattle.group_safety.proofs.Public.{claims-by}
use Rattle.worker_races.specs.merge.Places.{Move}
use Rattle.worker_races.specs.merge.Marks.{Mark, Control, Claim}
use Rattle.worker_races.specs.merge.inside.Ordered.{AreInOrder, is_control}
use Rattle.worker_races.specs.merge.Merged.{numbered}
use Rattle.worker_races.specs.merge.Raced.{IsMove, AreMoves, before_of, claim_after, woven}
use Rattle.worker_races.proofs.weaving.Agree.{number-told, none-told}
use Rattle.worker_races.proofs.weaving.Stepped.{Agrees, agrees-control, agrees-claim, claim-key}
use Rattle.worker_races.proofs.weaving.Lawful.{EachClaim, IsGood, head-move}

-- ---- counting

-- fewer pass a stricter test of fewer numbers
fewer : (p q : ℕ → Bool) (from count more : ℕ) → ((n : ℕ) → n < from + count → p n ≡ true → q n ≡ true)
    → length (filter p (range_with_len from count)) ≤ length (filter q (range_with_len from (count + more)))
fewer p q from zero more stricter = omega arith
fewer p q from (suc count) more stricter =
    let same : suc (count + more) ≡ suc count + more = omega arith in
    subst (λ m. length (filter p (range_with_len from (suc count))) ≤ length (filter q (range_with_len from m))) same
    (go (p from) (q from) refl refl (fewer p q (from + 1) count more (λ n less. stricter n (omega (arith, less)))))
  where
    ns : List ℕ
    ns = filter p (range_with_len (from + 1) count)

    ms : List ℕ
    ms = filter q (range_with_len (from + 1) (count + more))

    go : (b c : Bool) → p from ≡ b → q from ≡ c → length ns ≤ length ms
        → length (cond b (from ∷ ns) ns) ≤ length (cond c (from ∷ ms) ms)
    go true true here there less = omega (arith, less)
    go true false here there less = absurd (cc (stricter from (omega arith) here, there))
    go false true here there less = omega (arith, less)
    go false false here there less = less

unused-low : (settings : Settings) (s e : ℕ) (q w : Run) → next settings s e q ≤ next settings s e w
    → ((n : ℕ) → n < next settings s e q → is_unused s e q n ≡ true → is_unused s e w n ≡ true)
    → unused settings s e q ≤ unused settings s e w
unused-low settings s e q w low stays =
    let a : ℕ = next settings s e q - 1 in
    let b : ℕ = next settings s e w - next settings s e q in
    let sum = counted (next settings s e q) (next settings s e w) low in
    elim sum [
      | inl none ↦ (let zero : unused settings s e q ≡ 0 = rw none refl in omega (arith, zero))
      | inr is ↦ subst (λ m. unused settings s e q ≤ length (filter (is_unused s e w) (range_with_len 1 m))) is.1
          (fewer (is_unused s e q) (is_unused s e w) 1 a b (λ n less. stays n (let one = is.0 in omega (arith, less, one))))
    ]
  where
    counted : (m n : ℕ) → m ≤ n → (m - 1 ≡ 0) ⊎ ((1 ≤ m) × ((m - 1) + (n - m) ≡ n - 1))
    counted zero n low = inl refl
    counted (suc m) n low = inr (omega arith, omega (arith, low))

-- ---- claims of one event more

-- facts that tell of no claim add none
pub adds-none : (shown : List Fact) (cs : List Number) → ((s : ℕ) (an : AssociationNumber) (epoch pn : ℕ) → In (facts.Claimed s an epoch pn) shown → ⊥)
    → gather claim_of shown cs ≡ cs
adds-none [] cs none = refl
adds-none (facts.Claimed s an epoch pn ∷ later) cs none = absurd (none s an epoch pn (inl refl))
adds-none (_ ∷ later) cs none = adds-none later cs (λ s an epoch pn i. none s an epoch pn (inr i))

move-claims : (settings : Settings) (users : List UserFrame) (c q : Run) (m : Move) → IsMove settings users c m
    → claims (m.x ∷ q) ≡ claims q
unfolding claims
move-claims settings users c q m move =
    adds-none m.x.facts (claims q)
    (λ s an epoch pn i. (let by = claims-by settings users c m.x.event m.x.facts s an epoch pn
    (kind settings users m.x c move.step) i in
    absurd (not m.x.event by.user s pn by.event move.own)))
  where
    not : (f : Event) (user s pn : ℕ)
        → f ≡ events.Claim s user pn
        → is_event_of m.station f ≡ true → ⊥
    not f user s pn is own = let none = rw is at own in cc none

-- a number below the next one stays unused
claim-leaves : (s e n t : ℕ) (an : AssociationNumber) (epoch pn : ℕ) (cs : List Number)
    → (t ≡ s → epoch ≡ e → n ≢ pn) → not (list_any (is_claim_of s e n) cs) ≡ true
    → not (list_any (is_claim_of s e n) (record { station = t; an = an; epoch = epoch; pn = pn } ∷ cs)) ≡ true
claim-leaves s e n t an epoch pn cs differ left =
    elim (cases_Bool (eqb t s && (eqb epoch e && eqb pn n))) [
      | inr other ↦ rw other left
      | inl same ↦ absurd (let a = and_parts _ _ same in let b = and_parts _ _ a.1 in
          differ (eqb-true t s a.0) (eqb-true epoch e b.0) (sym (eqb-true pn n b.1)))
    ]

module _ (settings : Settings) (users : List UserFrame) (base : ℕ) (ans : ℕ → ℕ → AssociationNumber) (pointed : ℕ → ℕ) (r : Run) where
  -- what the run with a list behind it leaves of a number below the next one
  stays-unused : (s e n : ℕ) (zs past : List Mark) (q c : Run) (k : ℕ) (ms : List Move)
      → filter is_control zs ≡ numbered k ms → AreMoves settings users ans c ms → Agrees settings r past q c
      → AllByRecursion (EachClaim (IsGood settings users base ans pointed r)) zs
      → AreInOrder (before_of settings pointed r) past zs → n < next settings s e q → is_unused s e q n ≡ true
      → is_unused s e (woven settings base zs q) n ≡ true
  unfolding claims
  stays-unused s e n [] past q c k ms left moves a good order below free = free
  stays-unused s e n (Control j m ∷ zs) past q c k ms left moves a good order below free =
      let next = head-move j k m zs ms left in
      let all = subst (AreMoves settings users ans c) next.1 moves in
      let rises = never-falls settings s e (m.x ∷ []) q in
      stays-unused s e n zs (Control j m ∷ past) (m.x ∷ q) (m.x ∷ c) (suc k) next.0 next.2 all.2
      (agrees-control settings users base ans r past q c j m a all.0) good.1 order.1 (omega (arith, below, rises))
      (rw (move-claims settings users c q m all.0) free)
  stays-unused s e n (Claim x ∷ zs) past q c k ms left moves a good order below free =
      let rises = never-falls settings s e (claim_after settings base x q ∷ []) q in
      stays-unused s e n zs (Claim x ∷ past) (claim_after settings base x q ∷ q) c k ms left moves
      (agrees-claim settings users base ans r pointed past zs q c x a good.0.0 good.0.1 order.0) good.1 order.1
      (omega (arith, below, rises)) (free-on x.refused refl)
    where
      free-on : (b : Bool) → x.refused ≡ b → is_unused s e (claim_after settings base x q ∷ q) n ≡ true
      free-on true refused =
          let told = none-told settings x.station x.number q (transmitting_at settings x.station q) (good.0.0.none refused) in
          rw told free
      free-on false taken =
          let key = claim-key settings users base ans r pointed past zs q c x a good.0.0 order.0 taken (good.0.1 taken) in
          let told = number-told settings x.station x.number q (transmitting_at settings x.station q) key.0 (good.0.0.taken taken).0 key.1 in
          rw told (claim-leaves s e n x.station key.0.an key.0.epoch x.number (claims q)
          (λ same_s same_e is. (let above : next settings x.station x.epoch q ≤ x.number =
          subst (λ w. w ≤ x.number) (a.nexts x.station x.epoch) (order.0.0 taken).1 in
          let here : next settings s e q ≤ x.number =
          subst (λ v. next settings v e q ≤ x.number) same_s (subst (λ v. next settings x.station v q ≤ x.number) (sym key.2 ∙ same_e) above) in
          omega (arith, here, below, is))) free)

  woven-rises : (s e : ℕ) (zs : List Mark) (q : Run) → next settings s e q ≤ next settings s e (woven settings base zs q)
  woven-rises s e [] q = omega arith
  woven-rises s e (Control n m ∷ zs) q =
      let a = never-falls settings s e (m.x ∷ []) q in let b = woven-rises s e zs (m.x ∷ q) in omega (arith, a, b)
  woven-rises s e (Claim x ∷ zs) q =
      let a = never-falls settings s e (claim_after settings base x q ∷ []) q in
      let b = woven-rises s e zs (claim_after settings base x q ∷ q) in omega (arith, a, b)

  -- no moment of the race has more unused numbers than its end
  pub woven-thrifty : (zs past : List Mark) (q c : Run) (k : ℕ) (ms : List Move)
      → filter is_control zs ≡ numbered k ms → AreMoves settings users ans c ms → Agrees settings r past q c
      → AllByRecursion (EachClaim (IsGood settings users base ans pointed r)) zs
      → AreInOrder (before_of settings pointed r) past zs
      → ((s e : ℕ) → unused settings s e (woven settings base zs q) ≤ 16) → IsThrifty settings q
      → IsThrifty settings (woven settings base zs q)
  woven-thrifty [] past q c k ms left moves a good order end thrifty = thrifty
  woven-thrifty (Control j m ∷ zs) past q c k ms left moves a good order end thrifty =
      let next = head-move j k m zs ms left in
      let all = subst (AreMoves settings users ans c) next.1 moves in
      let on = agrees-control settings users base ans r past q c j m a all.0 in
      woven-thrifty zs (Control j m ∷ past) (m.x ∷ q) (m.x ∷ c) (suc k) next.0 next.2 all.2 on good.1 order.1 end (
        λ s e. (let less = unused-low settings s e (m.x ∷ q) (woven settings base zs (m.x ∷ q)) (woven-rises s e zs (m.x ∷ q))
            (λ n below free. stays-unused s e n zs (Control j m ∷ past) (m.x ∷ q) (m.x ∷ c) (suc k) next.0 next.2 all.2 on good.1 order.1 below free) in
            let most = end s e in omega (arith, less, most)),
        thrifty,
      )
  woven-thrifty (Claim x ∷ zs) past q c k ms left moves a good order end thrifty =
      let on = agrees-claim settings users base ans r pointed past zs q c x a good.0.0 good.0.1 order.0 in
      let h = claim_after settings base x q in
      woven-thrifty zs (Claim x ∷ past) (h ∷ q) c k ms left moves on good.1 order.1 end (
        λ s e. (let less = unused-low settings s e (h ∷ q) (woven settings base zs (h ∷ q)) (woven-rises s e zs (h ∷ q))
            (λ n below free. stays-unused s e n zs (Claim x ∷ past) (h ∷ q) c k ms left moves on good.1 order.1 below free) in
            let most = end s e in omega (arith, less, most)),
        thrifty,
      )
