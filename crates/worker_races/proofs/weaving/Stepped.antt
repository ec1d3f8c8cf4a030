-- The run with the merged list behind it is legal, where the list is in order by what the places
-- know.
use Rattle.std.proofs.Common.{◌≡◌, ◌≢◌, ◌⊎◌, ◌<◌, ◌≤◌, ◌+◌, ◌^◌, ℕ, suc, max, Bool, true, false, not, cond, ◌&&◌, eqb}
use Rattle.lan_base.specs.declared.association_number.AssociationNumber.{AssociationNumber}
use Rattle.std.proofs.Common.{List, [], ◌∷◌, length, refl, sym, ap, ◌∙◌, subst, arith, inl, inr, append-nil}
use Rattle.std.proofs.Common.{Option, Some, None}
use Rattle.std.specs.Prelude.{option_map, is_some}
use Rattle.std.proofs.lemmas.Bool.{eqb-true, cond-true, cond-false, cases_eq, cases_Bool}
use Rattle.lan_base.specs.declared.frame.UserFrame.{UserFrame}
use Rattle.sak_exchange.specs.declared.held_key.Key.{Key}
use Rattle.lan_core.specs.declared.event.Event.{Event}
use Rattle.lan_core.specs.declared.event.Event.TheVariants as events
use Rattle.lan_core.specs.declared.settings.Settings.{Settings}
use Rattle.lan_core.specs.Run.{Run, stations}
use Rattle.lan_core.specs.Lives.{life, transmitting_at}
use Rattle.lan_core.specs.Claims.{next}
use Rattle.lan_core.specs.Expected.{expected, drawn_in, claim_fact}
use Rattle.lan_core.specs.Types.{IsSetting}
use Rattle.lan_core.specs.Order.{Exists, IsWithin, IsShown, IsAllowed, IsClaimable, is_event_of, settled}
use Rattle.lan_core.specs.Legal.{IsStep, IsStepped}
use Rattle.lan_core.proofs.Public.{others-change-none}
use Rattle.lan_core.proofs.Public.{in-a-life}
use Rattle.lan_core.proofs.Public.{never-falls}
use Rattle.worker_races.specs.merge.Places.{Move, Attempt}
use Rattle.worker_races.specs.merge.Marks.{Mark, Control, Claim}
use Rattle.worker_races.specs.merge.inside.Ordered.{InOrder, now as now_in, next as next_in, settled as settled_in}
use Rattle.worker_races.specs.merge.Raced.{epoch_of, epoch_at, shown_of, IsMove, before_of, claim_after, user_of, IsAttempt}
use Rattle.lan_core.specs.Parts.{AreAlike}
use Rattle.lan_core.proofs.Public.{alike-itself, alike-claim, alike-event, transmits-same, expected-same, within-same}
use Rattle.worker_races.proofs.weaving.Agree.{own-of, starts-none, shows-next, shown-same, max-when, max-zero, tells-claim, number-told, none-told}

-- What the places know after some marks is what the runs say: that with claims, and that with
-- control alone.
pub record Agrees (settings : Settings) (r : Run) (past : List Mark) (q c : Run) : Type 0 where
  pub seen : AreAlike settings q c
  pub places : stations c ≡ stations r
  pub stands : (s : ℕ) → Exists s r → now_in s (epoch_at settings s r) past ≡ epoch_at settings s q
  pub nexts : (s e : ℕ) → next_in s e (next settings s e r) past ≡ next settings s e q
  pub settles : (s e : ℕ)
      → settled_in s e (next settings s e r) (next settings s e (settled s r)) past
      ≡ next settings s e (settled s q)

pub agrees-nil : (settings : Settings) (r : Run) → Agrees settings r [] r r
unfolding now_in next_in settled_in
agrees-nil settings r = record {
  seen = alike-itself settings r;
  places = refl;
  stands = λ s there. refl;
  nexts = λ s e. refl;
  settles = λ s e. refl;
}

-- the next number after the last event of a station that is no claim is no greater
pub settled-low : (settings : Settings) (s e : ℕ) (c : Run)
    → next settings s e (settled s c) ≤ next settings s e c
settled-low settings s e [] = omega arith
settled-low settings s e (x ∷ c) = go (is_event_of s x.event) (settled-low settings s e c)
  where
    go : (b : Bool) → next settings s e (settled s c) ≤ next settings s e c
        → next settings s e (cond b (x ∷ c) (settled s c)) ≤ next settings s e (x ∷ c)
    go true before = omega arith
    go false before = let rises = never-falls settings s e (x ∷ []) c in omega (arith, before, rises)

-- a key transmits where the places know its epoch
pub key-of : (o : Option Key) (e : ℕ) → epoch_of o ≡ e → 0 < e → (k : Key) × (o ≡ Some k) × (k.epoch ≡ e)
key-of None e is some = absurd (omega (arith, is, some))
key-of (Some k) e is some = (k, refl, is)

pub always-some : {A B : Type 0} (o : Option A) (b : B) → is_some o ≡ true → option_map (λ a. b) o ≡ Some b
always-some None b some = absurd (cc some)
always-some (Some a) b some = refl

module _ (settings : Settings) (users : List UserFrame) (base : ℕ) (ans : ℕ → ℕ → AssociationNumber) (r : Run) where
  there-in : (s : ℕ) (q : Run) → stations q ≡ stations r → Exists s r → Exists s q
  there-in s q same there = subst (λ ps. s < length ps) (sym same) there

  there-out : (s : ℕ) (q : Run) → stations q ≡ stations r → Exists s q → Exists s r
  there-out s q same there = subst (λ ps. s < length ps) same there

  -- ---- a step of control

  same-transmits : (q c : Run) → AreAlike settings q c → (s : ℕ) → epoch_at settings s q ≡ epoch_at settings s c
  same-transmits q c seen s = ap epoch_of (transmits-same settings q c seen s)

  nexts-control : (past : List Mark) (q c : Run) (n : ℕ) (m : Move) → Agrees settings r past q c
      → IsMove settings users c m → (s e : ℕ)
      → next_in s e (next settings s e r) (Control n m ∷ past) ≡ next settings s e (m.x ∷ q)
  unfolding next_in next
  nexts-control past q c n m a move s e =
      let shows = shown-same settings q c a.seen s e m.x.facts m.x.event ∙ shows-next settings users c m s e move in
      let b : Bool = eqb m.station s && eqb m.before e in
      let here : cond (eqb m.station s && eqb (epoch_at settings m.station c) e) m.shown 0 ≡ cond b m.shown 0 =
      ap (λ w. cond (eqb m.station s && eqb w e) m.shown 0) (sym move.before) in
      ap (λ w. cond b (max m.shown w) w) (a.nexts s e)
      ∙ (sym (max-when b m.shown (next settings s e q))
      ∙ ap (λ w. max w (next settings s e q)) (sym (shows ∙ here)))

  pub agrees-control : (past : List Mark) (q c : Run) (n : ℕ) (m : Move)
      → Agrees settings r past q c → IsMove settings users c m
      → Agrees settings r (Control n m ∷ past) (m.x ∷ q) (m.x ∷ c)
  unfolding now_in settled_in stations
  agrees-control past q c n m a move = record {
    seen = alike-event settings q c a.seen m.x;
    places = rw (starts-none m.station m.x.event move.own) (append-nil (stations c) ∙ a.places);
    stands = λ s there. elim (cases_Bool (eqb m.station s)) [
      | inl own ↦ cond-true (eqb m.station s) _ _ own ∙ (move.after
          ∙ (ap (λ v. epoch_at settings v (m.x ∷ c)) (eqb-true m.station s own)
          ∙ sym (same-transmits (m.x ∷ q) (m.x ∷ c) (alike-event settings q c a.seen m.x) s)))
      | inr other ↦ cond-false (eqb m.station s) _ _ other ∙ (a.stands s there
          ∙ sym (stays s (there-in s q (a.seen.places ∙ a.places) there) (own-of s m.station m.x.event move.own ∙ other)))
    ];
    nexts = nexts-control past q c n m a move;
    settles = λ s e. elim (cases_Bool (eqb m.station s)) [
      | inl own ↦ cond-true (eqb m.station s) _ _ own ∙ (nexts-control past q c n m a move s e
          ∙ ap (λ w. next settings s e w) (sym (cond-true (is_event_of s m.x.event) (m.x ∷ q) (settled s q) (own-of s m.station m.x.event move.own ∙ own))))
      | inr other ↦ cond-false (eqb m.station s) _ _ other ∙ (a.settles s e
          ∙ ap (λ w. next settings s e w) (sym (cond-false (is_event_of s m.x.event) (m.x ∷ q) (settled s q) (own-of s m.station m.x.event move.own ∙ other))))
    ];
  }
    where
      stays : (s : ℕ) → Exists s q → is_event_of s m.x.event ≡ false → epoch_at settings s (m.x ∷ q) ≡ epoch_at settings s q
      stays s there not = rw (others-change-none settings s m.x q there not) refl

  -- what the tick of a step shows, where it shows something
  pub record Ticks (c : Run) (m : Move) : Type 0 where
    pub key : Key
    pub sends : transmitting_at settings m.station c ≡ Some key
    pub above : (next settings m.station key.epoch c ≤ m.shown)
        ⊎ ((transmitting_at settings m.station (m.x ∷ c) ≢ Some key)
        × (next settings m.station key.epoch (settled m.station c) ≤ m.shown))

  pub ticks-at : (c : Run) (m : Move) → IsMove settings users c m → 0 < m.shown → Ticks c m
  ticks-at c m move some = go m.x.event move.own move.shown move.step.in_order.1
    where
      tick : (t n : ℕ) (o : Option Key) → transmitting_at settings t c ≡ o → t ≡ m.station → m.shown ≡ n
          → IsShown settings t n m.x c o → Ticks c m
      tick t n None is here shown nothing = absurd (omega (arith, some, shown, nothing))
      tick t n (Some k) is here shown (one, above) = record {
        key = k;
        sends = subst (λ v. transmitting_at settings v c ≡ Some k) here is;
        above = subst (λ v. (next settings v k.epoch c ≤ m.shown)
            ⊎ ((transmitting_at settings v (m.x ∷ c) ≢ Some k) × (next settings v k.epoch (settled v c) ≤ m.shown))) here
            (subst (λ w. (next settings t k.epoch c ≤ w)
            ⊎ ((transmitting_at settings t (m.x ∷ c) ≢ Some k) × (next settings t k.epoch (settled t c) ≤ w))) (sym shown) above);
      }

      go : (f : Event) → is_event_of m.station f ≡ true → m.shown ≡ shown_of f → IsAllowed settings users c m.x f → Ticks c m
      go (events.Start name sci priority) own shown allowed = absurd (cc own)
      go (events.Tick t n) own shown allowed = tick t n (transmitting_at settings t c) refl (eqb-true t m.station own) shown allowed.1
      go (events.Deliver frame station) own shown allowed = absurd (omega (arith, some, shown))
      go (events.Restart station) own shown allowed = absurd (omega (arith, some, shown))
      go (events.Claim station user pn) own shown allowed = absurd (cc own)
      go events.Emit own shown allowed = absurd (cc own)
      go (events.Inject station octets) own shown allowed = absurd (omega (arith, some, shown))

  -- a step of control is of a station that is there
  pub move-there : (c : Run) (m : Move) → IsMove settings users c m → Exists m.station c
  move-there c m move = go m.x.event move.own move.step.in_order.1
    where
      at : (t : ℕ) → (t ≡ m.station) → Exists t c → Exists m.station c
      at t same there = subst (λ v. Exists v c) same there

      go : (f : Event) → is_event_of m.station f ≡ true → IsAllowed settings users c m.x f → Exists m.station c
      go (events.Start name sci priority) own allowed = absurd (cc own)
      go (events.Tick t n) own allowed = at t (eqb-true t m.station own) allowed.0
      go (events.Deliver frame t) own allowed = at t (eqb-true t m.station own) allowed.0
      go (events.Restart t) own allowed = at t (eqb-true t m.station own) allowed.0
      go (events.Claim station user pn) own allowed = absurd (cc own)
      go events.Emit own allowed = absurd (cc own)
      go (events.Inject t octets) own allowed = at t (eqb-true t m.station own) allowed.0

  -- what stands in order by the places is in order after the run with claims
  pub control-step : (pointed : ℕ → ℕ) (past zs : List Mark) (q c : Run) (n : ℕ) (m : Move)
      → Agrees settings r past q c → IsMove settings users c m
      → InOrder (before_of settings pointed r) past (Control n m) zs → IsStep settings users m.x q
  control-step pointed past zs q c n m a move order = record {
    setting = move.step.setting;
    in_order = (move.step.in_order.0, go m.x.event move.own move.shown move.step.in_order.1);
    shows = expected-same settings q c a.seen users m.station m.x.event (drawn_in m.x.facts) move.own ∙ move.step.shows;
    within = within-same settings (m.x ∷ q) (m.x ∷ c) (alike-event settings q c a.seen m.x) move.step.within;
  }
    where
      there : (s : ℕ) → Exists s c → Exists s q
      there s h = subst (λ ps. s < length ps) (sym a.seen.places) h

      keeps : (k : Key) → transmitting_at settings m.station c ≡ Some k → 0 < m.shown → m.after ≡ m.before → next settings m.station k.epoch q ≤ m.shown
      keeps k is some same =
          subst (λ e. next settings m.station e q ≤ m.shown) (move.before ∙ ap epoch_of is)
          (subst (λ w. w ≤ m.shown) (a.nexts m.station m.before) (order.1 some same))

      moves : (k : Key) → transmitting_at settings m.station c ≡ Some k → 0 < m.shown → (m.after ≡ m.before → ⊥)
          → (transmitting_at settings m.station (m.x ∷ q) ≢ Some k) × (next settings m.station k.epoch (settled m.station q) ≤ m.shown)
      moves k is some other = (
        λ h. other (move.after ∙ (sym (same-transmits (m.x ∷ q) (m.x ∷ c) (alike-event settings q c a.seen m.x) m.station)
            ∙ (ap epoch_of h ∙ (sym (ap epoch_of is) ∙ sym move.before)))),
        subst (λ e. next settings m.station e (settled m.station q) ≤ m.shown) (move.before ∙ ap epoch_of is)
            (subst (λ w. w ≤ m.shown) (a.settles m.station m.before) (order.2 some other)),
      )

      shown-at : (k : Key) → transmitting_at settings m.station c ≡ Some k → 0 < m.shown
          → (next settings m.station k.epoch q ≤ m.shown)
          ⊎ ((transmitting_at settings m.station (m.x ∷ q) ≢ Some k) × (next settings m.station k.epoch (settled m.station q) ≤ m.shown))
      shown-at k is some = elim (cases_eq m.after m.before) [ inl same ↦ inl (keeps k is some same) | inr other ↦ inr (moves k is some other) ]

      tick : (t w : ℕ) (o : Option Key) → t ≡ m.station → m.shown ≡ w → transmitting_at settings t c ≡ o
          → IsShown settings t w m.x c o → IsShown settings t w m.x q o
      tick t w None here shown is nothing = nothing
      tick t w (Some k) here shown is (one, above) = (
        one,
        subst (λ v. (next settings v k.epoch q ≤ w) ⊎ ((transmitting_at settings v (m.x ∷ q) ≢ Some k) × (next settings v k.epoch (settled v q) ≤ w))) (sym here)
            (subst (λ u. (next settings m.station k.epoch q ≤ u) ⊎ ((transmitting_at settings m.station (m.x ∷ q) ≢ Some k) × (next settings m.station k.epoch (settled m.station q) ≤ u))) shown
            (shown-at k (subst (λ v. transmitting_at settings v c ≡ Some k) here is) (omega (arith, one, shown)))),
      )

      go : (f : Event) → is_event_of m.station f ≡ true → m.shown ≡ shown_of f → IsAllowed settings users c m.x f → IsAllowed settings users q m.x f
      go (events.Start name sci priority) own shown allowed = absurd (cc own)
      go (events.Tick t w) own shown (here, is, drawn) = (
        there t here,
        subst (IsShown settings t w m.x q) (sym (transmits-same settings q c a.seen t)) (tick t w (transmitting_at settings t c) (eqb-true t m.station own) shown refl is),
        drawn,
      )
      go (events.Deliver frame t) own shown (here, is) = (there t here, rw a.seen.on_air is)
      go (events.Restart t) own shown (here, drawn) = (there t here, drawn)
      go (events.Claim station user pn) own shown allowed = absurd (cc own)
      go events.Emit own shown allowed = absurd (cc own)
      go (events.Inject t octets) own shown (here, short) = (there t here, short)

  -- a step of control that is in order after control alone is so by the places
  pub in-order-control : (pointed : ℕ → ℕ) (past zs : List Mark) (c : Run) (n : ℕ) (m : Move)
      → Agrees settings r past c c → IsMove settings users c m
      → InOrder (before_of settings pointed r) past (Control n m) zs
  in-order-control pointed past zs c n m a move = (
    move.before ∙ sym (a.stands m.station (there-out m.station c a.places (move-there c m move))),
    λ some same. keeps (ticks-at c m move some) same,
    λ some other. moves (ticks-at c m move some),
  )
    where
      under : (t : Ticks c m) → t.key.epoch ≡ m.before
      under t = sym (move.before ∙ ap epoch_of t.sends)

      low : (t : Ticks c m) → m.after ≡ m.before → next settings m.station t.key.epoch c ≤ m.shown
      low t same = elim t.above [ inl l ↦ l | inr o ↦ absurd (o.0 (move.same same ∙ t.sends)) ]

      keeps : Ticks c m → m.after ≡ m.before → next_in m.station m.before (next settings m.station m.before r) past ≤ m.shown
      keeps t same = subst (λ w. w ≤ m.shown) (sym (a.nexts m.station m.before)) (subst (λ e. next settings m.station e c ≤ m.shown) (under t) (low t same))

      fallen : (t : Ticks c m) → next settings m.station t.key.epoch (settled m.station c) ≤ m.shown
      fallen t = elim t.above [ inl l ↦ (let f = settled-low settings m.station t.key.epoch c in omega (arith, f, l)) | inr o ↦ o.1 ]

      moves : Ticks c m → settled_in m.station m.before (next settings m.station m.before r) (next settings m.station m.before (settled m.station r)) past ≤ m.shown
      moves t = subst (λ w. w ≤ m.shown) (sym (a.settles m.station m.before)) (subst (λ e. next settings m.station e (settled m.station c) ≤ m.shown) (under t) (fallen t))

  -- ---- a claim

  -- the key under which an entry was claimed
  pub claim-key : (pointed : ℕ → ℕ) (past zs : List Mark) (q c : Run) (x : Attempt)
      → Agrees settings r past q c → IsAttempt users base ans r x → InOrder (before_of settings pointed r) past (Claim x) zs
      → x.refused ≡ false → 0 < x.epoch → (k : Key) × (transmitting_at settings x.station q ≡ Some k) × (k.epoch ≡ x.epoch)
  claim-key pointed past zs q c x a claim order taken some =
      key-of (transmitting_at settings x.station q) x.epoch (sym (a.stands x.station claim.there) ∙ (order.0 taken).0) some

  pub claim-step : (pointed : ℕ → ℕ) (past zs : List Mark) (q c : Run) (x : Attempt)
      → Agrees settings r past q c → IsSetting settings → IsWithin q → IsStepped settings users q
      → IsAttempt users base ans r x → (x.refused ≡ false → 0 < x.epoch)
      → InOrder (before_of settings pointed r) past (Claim x) zs
      → IsStep settings users (claim_after settings base x q) q
  unfolding expected
  claim-step pointed past zs q c x a setting within stepped claim some order = record {
    setting = setting;
    in_order = (typed, (there, claim.sendable, allowed));
    shows = always-some (life settings x.station q) _ (in-a-life settings users x.station q stepped there);
    within = within-same settings (claim_after settings base x q ∷ q) q
        (alike-claim settings x.station (user_of base x) x.number
        (claim_fact settings x.station q x.number (transmitting_at settings x.station q)) q q
        (tells-claim settings x.station x.number q (transmitting_at settings x.station q)) (alike-itself settings q)) within;
  }
    where
      there : Exists x.station q
      there = there-in x.station q (a.seen.places ∙ a.places) claim.there

      typed : (x.station < 2 ^ 8) × (user_of base x < 2 ^ 32) × (x.number < 2 ^ 32)
      typed = elim (cases_Bool x.refused) [
        | inl refused ↦ (claim.place, claim.user, (let zero = claim.none refused in omega (arith, zero)))
        | inr taken ↦ (claim.place, claim.user, (let low = (claim.taken taken).1 in omega (arith, low)))
      ]

      numbered-at : (k : Key) → transmitting_at settings x.station q ≡ Some k → k.epoch ≡ x.epoch → x.refused ≡ false
          → IsClaimable settings x.station q x.number (transmitting_at settings x.station q)
      numbered-at k is same taken =
          subst (IsClaimable settings x.station q x.number) (sym is) (
            subst (λ e. next settings x.station e q ≤ x.number) (sym same)
                (subst (λ w. w ≤ x.number) (a.nexts x.station x.epoch) (order.0 taken).1),
            (claim.taken taken).1,
          )

      allowed : (x.number ≡ 0) ⊎ IsClaimable settings x.station q x.number (transmitting_at settings x.station q)
      allowed = elim (cases_Bool x.refused) [
        | inl refused ↦ inl (claim.none refused)
        | inr taken ↦ (let k = claim-key pointed past zs q c x a claim order taken (some taken) in
            inr (numbered-at k.0 k.1 k.2 taken))
      ]

  -- what a claim leaves
  pub agrees-claim : (pointed : ℕ → ℕ) (past zs : List Mark) (q c : Run) (x : Attempt)
      → Agrees settings r past q c → IsAttempt users base ans r x → (x.refused ≡ false → 0 < x.epoch)
      → InOrder (before_of settings pointed r) past (Claim x) zs
      → Agrees settings r (Claim x ∷ past) (claim_after settings base x q ∷ q) c
  unfolding now_in next_in settled_in next
  agrees-claim pointed past zs q c x a claim some order = record {
    seen = seen;
    places = a.places;
    stands = λ s there. a.stands s there ∙ (same-transmits q c a.seen s ∙ sym (same-transmits (claim_after settings base x q ∷ q) c seen s));
    nexts = λ s e. elim (cases_Bool x.refused) [ inl refused ↦ none s e refused | inr taken ↦ one s e taken ];
    settles = a.settles;
  }
    where
      seen : AreAlike settings (claim_after settings base x q ∷ q) c
      seen = alike-claim settings x.station (user_of base x) x.number
          (claim_fact settings x.station q x.number (transmitting_at settings x.station q)) q c
          (tells-claim settings x.station x.number q (transmitting_at settings x.station q)) a.seen

      none : (s e : ℕ) → x.refused ≡ true
          → next_in s e (next settings s e r) (Claim x ∷ past) ≡ next settings s e (claim_after settings base x q ∷ q)
      none s e refused =
          let told = none-told settings x.station x.number q (transmitting_at settings x.station q) (claim.none refused) in
          rw (refused, told) (a.nexts s e ∙ sym (max-zero (next settings s e q)))

      one : (s e : ℕ) → x.refused ≡ false
          → next_in s e (next settings s e r) (Claim x ∷ past) ≡ next settings s e (claim_after settings base x q ∷ q)
      one s e taken =
          let k = claim-key pointed past zs q c x a claim order taken (some taken) in
          let told = number-told settings x.station x.number q (transmitting_at settings x.station q) k.0 (claim.taken taken).0 k.1 in
          let more : suc x.number ≡ x.number + 1 = omega arith in
          rw (taken, told, k.2, a.nexts s e) (ap (λ w. cond (eqb x.station s && eqb x.epoch e) (max w (next settings s e q)) (next settings s e q)) more
          ∙ sym (max-when (eqb x.station s && eqb x.epoch e) (x.number + 1) (next settings s e q)))
