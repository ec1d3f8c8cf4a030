-- Nobody begins a key before a key server led it.
use Rattle.std.proofs.Common.{◌≡◌, ◌⊎◌, inl, inr, ℕ, suc, ◌+◌, ◌≤◌, ◌<◌, Bool, true, List, [], ◌∷◌}
use Rattle.std.proofs.Common.{length, refl, ap, sym, ◌∙◌, subst, arith}
use Rattle.std.proofs.Common.{Option, Some, None}
use Rattle.std.proofs.lemmas.Bool.{cases_lt, eqb-true, eq-eqb}
use Rattle.std.specs.Prelude.{◌==◌}
use Rattle.lan_base.specs.declared.key_id.KeyId.{KeyId}
use Rattle.lan_base.specs.declared.frame.UserFrame.{UserFrame}
use Rattle.mkpdu_codec.specs.declared.announcement.Announcement.{Announcement}
use Rattle.sak_exchange.specs.declared.held_key.Key.{Key}
use Rattle.sak_exchange.specs.Histories.{Keying, ticked, installed, began, installs, has_begun}
use Rattle.sak_exchange.specs.Histories.{last_begun, install_count}
use Rattle.sak_exchange.specs.Held.{KeepsRules, latest, transmitting}
use Rattle.sak_exchange.specs.Beginning.{Beginning}
use Rattle.sak_exchange.specs.Lives.{Has}
use Rattle.sak_exchange.proofs.Public.{by_test, begun-upto}
use Rattle.mka_station.specs.Lives.{keys_of}
use Rattle.mka_station.specs.Lives as lives
use Rattle.mka_station.specs.Views.{view}
use Rattle.mka_station.specs.Tick.{led}
use Rattle.mka_station.specs.Hearing.{outcome_of}
use Rattle.mka_station.specs.Tick.{ticked_past, says_at}
use Rattle.mka_station.specs.Hearing.{taken_past, follow_at}
use Rattle.lan_core.specs.declared.event.Event.TheVariants as events
use Rattle.lan_core.specs.declared.settings.Settings.{Settings}
use Rattle.lan_core.specs.Run.{Run, Happening}
use Rattle.lan_core.specs.Lives.{Life, life, keys_in, seen_at, sak_in, lived, turn_at_tick}
use Rattle.lan_core.specs.Types.{IsSetting}
use Rattle.lan_core.specs.Legal.{IsStepped}
use Rattle.lan_base.specs.Differing.{AllDiffer}
use Rattle.lan_core.specs.Fresh.{IsUnforged, drawn_mis}
use Rattle.group_safety.specs.Moments.{upto, At}
use Rattle.group_safety.specs.Stations.{keys_at, keys_of_life}
use Rattle.group_safety.proofs.Members.{by_sum}
use Rattle.group_safety.proofs.once.Histories.{with_began, with_key, keys-said}
use Rattle.group_safety.proofs.rollover.Spans.{from_to}
use Rattle.group_safety.proofs.rollover.AtMoments.{event-at, upto-zero}
use Rattle.group_safety.proofs.rollover.KeyFacts.{latest-received, received-installed}
use Rattle.group_safety.proofs.rollover.KeyFacts.{transmitting-last}
use Rattle.group_safety.proofs.rollover.Begins.{following-is}
use Rattle.group_safety.proofs.rollover.Turns.{IsTurn, kept-turn, with_tick}
use Rattle.group_safety.specs.Rounds.{Since}
use Rattle.group_safety.proofs.rollover.Turns.{turn-past}
use Rattle.group_safety.proofs.rollover.TicksAreRounds.{IsPaced}
use Rattle.group_safety.proofs.rollover.Shown.{said-transmitting}
use Rattle.group_safety.proofs.rollover.Said.{Said, reached-said}
use Rattle.group_safety.proofs.rollover.Lived.{key-part, life-kept, tick-turn-at, hear-turn-at}
use Rattle.group_safety.proofs.rollover.Lived as lived
use Rattle.group_safety.proofs.rollover.EventKinds.{IsReached}
use Rattle.group_safety.proofs.rollover.EventKinds as parts
use Rattle.mka_station.specs.Hearing.{judged}
use Rattle.std.specs.Prelude.{Ok}

-- ---- epochs of installs

pub installed-upto : (base : ℕ) (h : List Keying) (k : Key) → KeepsRules base h → Has k (installs h)
    → k.epoch ≤ base + install_count h
installed-upto base [] k kept has = absurd has
installed-upto base (ticked s ∷ h) k kept has = installed-upto base h k kept has
installed-upto base (installed r n ∷ h) k kept (inl same) = let e =
    ap (λ (w : Key). w.epoch) same in let next = kept.0 in omega arith
installed-upto base (installed r n ∷ h) k kept (inr has) = let before =
    installed-upto base h k kept.2 has in omega arith
installed-upto base (began e ∷ h) k kept has = installed-upto base h k kept.1 has

pub one-epoch : (base : ℕ) (h : List Keying) (j k : Key) → KeepsRules base h → Has j (installs h)
    → Has k (installs h) → j.epoch ≡ k.epoch → j ≡ k
one-epoch base [] j k kept hj hk e = absurd hj
one-epoch base (ticked s ∷ h) j k kept hj hk e = one-epoch base h j k kept hj hk e
one-epoch base (installed r n ∷ h) j k kept (inl a) (inl b) e = sym a ∙ b
one-epoch base (installed r n ∷ h) j k kept (inl a) (inr hk) e =
    let f = ap (λ (w : Key). w.epoch) a in let next = kept.0 in let below =
    installed-upto base h k kept.2 hk in absurd (omega arith)
one-epoch base (installed r n ∷ h) j k kept (inr hj) (inl b) e =
    let f = ap (λ (w : Key). w.epoch) b in let next = kept.0 in let below =
    installed-upto base h j kept.2 hj in absurd (omega arith)
one-epoch base (installed r n ∷ h) j k kept (inr hj) (inr hk) e =
    one-epoch base h j k kept.2 hj hk e
one-epoch base (began n ∷ h) j k kept hj hk e = one-epoch base h j k kept.1 hj hk e

pub last-begun-begun : (h : List Keying) (e : ℕ) → last_begun h ≡ Some e → has_begun h e ≡ true
last-begun-begun [] e is = absurd (cc (is))
last-begun-begun (ticked s ∷ h) e is = last-begun-begun h e is
last-begun-begun (installed r k ∷ h) e is = last-begun-begun h e is
last-begun-begun (began f ∷ h) e is = let same : f ≡ e = cc (is) in let yes : (f == e) ≡ true =
    eq-eqb f e same in rw yes refl

-- ---- what has begun after a turn

-- it had begun before, or it is the key that begins in the turn
abbrev pub BegunIn : List Keying → Option Beginning → Option Beginning → Key → Type 0
BegunIn h lead follow k = (Has k (installs h) × (has_begun h k.epoch ≡ true)) ⊎
    ((b : Beginning) × ((lead ≡ Some b) ⊎ (follow ≡ Some b)) × (b.key.id ≡ k.id))

begun-more : (base : ℕ) (h : List Keying) (b : Option Beginning) (k : Key) → KeepsRules base h
    → ((c : Beginning) → b ≡ Some c → latest h ≡ Some c.key)
    → Has k (installs (with_began b h)) → has_begun (with_began b h) k.epoch ≡ true
    → (Has k (installs h) × (has_begun h k.epoch ≡ true)) ⊎
    ((c : Beginning) × (b ≡ Some c) × (c.key.id ≡ k.id))
begun-more base h None k kept newest has begun = inl (has, begun)
begun-more base h (Some b) k kept newest has begun =
    by_test (b.key.epoch == k.epoch)
    (λ t. let there = received-installed h b.key
    (latest-received base h b.key kept (newest b refl)) in
    let same = one-epoch base h b.key k kept there has (eqb-true b.key.epoch k.epoch t) in
    inr (b, refl, ap (λ (w : Key). w.id) same))
    (λ t. inl (has, rw t at begun))

key-more : (base : ℕ) (h : List Keying) (r : _) (key : Option Key) (k : Key) → KeepsRules base h
    → ((j : Key) → key ≡ Some j → j.epoch ≡ (base + install_count h) + 1)
    → Has k (installs (with_key r key h)) → has_begun (with_key r key h) k.epoch ≡ true
    → Has k (installs h) × (has_begun h k.epoch ≡ true)
key-more base h r None k kept next has begun = (has, begun)
key-more base h r (Some j) k kept next (inl same) begun =
    let e = ap (λ (w : Key). w.epoch) same in let f = next j refl in let low =
    begun-upto base h k.epoch kept begun in absurd (omega arith)
key-more base h r (Some j) k kept next (inr has) begun = (has, begun)

tick-more : (t : Option Bool) (h : List Keying) (k : Key) → Has k (installs (with_tick t h))
    → has_begun (with_tick t h) k.epoch ≡ true → Has k (installs h) × (has_begun h k.epoch ≡ true)
tick-more None h k has begun = (has, begun)
tick-more (Some s) h k has begun = (has, begun)

pub kept-of-began : (base : ℕ) (b : Option Beginning) (h : List Keying) → KeepsRules base (with_began b h)
    → KeepsRules base h
kept-of-began base None h kept = kept
kept-of-began base (Some b) h kept = kept.1

kept-of-key : (base : ℕ) (r : _) (k : Option Key) (h : List Keying) → KeepsRules base (with_key r k h)
    → KeepsRules base h
kept-of-key base r None h kept = kept
kept-of-key base r (Some k) h kept = kept.2

pub begun-in : (base : ℕ) (h g : List Keying) (t : IsTurn base h g) (k : Key) → KeepsRules base g
    → Has k (installs g) → has_begun g k.epoch ≡ true
    → BegunIn h t.lead t.follow k
begun-in base h g t k kept has begun =
    let h1 = with_tick t.tick h in
    let h2 = with_began t.lead h1 in
    let h3 = with_key t.roster t.key h2 in
    let kg = subst (KeepsRules base) t.whole kept in
    let k3 = kept-of-began base t.follow h3 kg in
    let k2 = kept-of-key base t.roster t.key h2 k3 in
    let k1 = kept-of-began base t.lead h1 k2 in
    by_sum (begun-more base h3 t.follow k k3 t.follow_latest
    (subst (λ w. Has k (installs w)) t.whole has)
    (subst (λ w. has_begun w k.epoch ≡ true) t.whole begun))
    (λ a. let b = key-more base h2 t.roster t.key k k2 (λ j e. (t.may_install j e).0) a.0 a.1 in
    by_sum (begun-more base h1 t.lead k k1 t.lead_latest b.0 b.1)
    (λ d. inl (tick-more t.tick h k d.0 d.1))
    (λ d. inr (d.0, inl d.1, d.2)))
    (λ a. inr (a.0, inr a.1, a.2))

-- ---- over a run

-- a station leads a key in an event
pub record LedAt (settings : Settings) (run : Run) (z s : ℕ) (id : KeyId) : Type 0 where
  pub event : Happening
  pub at : At run z event
  pub within : z < length run
  pub next : ℕ
  pub tick : event.event ≡ events.Tick s next
  pub life_then : Life
  pub living : life settings s (upto z run) ≡ Some life_then
  pub by : Beginning
  pub leads : led life_then.member (view life_then.member (lives.ticked ∷ life_then.past)) ≡ Some by
  pub named : by.key.id ≡ id

-- what a station says is said of the keys that it has then
pub keys-when-said : (settings : Settings) (run : Run) (z t : ℕ) (a : Announcement)
    (s : Said settings run z t a)
    → life settings t (upto (suc z) run) ≡ Some
    (lived s.life_then (turn_at_tick settings t (upto z run) s.life_then s.next
    (sak_in s.event.facts)))
    → keys_at settings t (upto (suc z) run) ≡ keys_of s.life_then.member
    (ticked_past s.life_then.member (seen_at settings t (upto z run) s.life_then s.next)
    (sak_in s.event.facts) s.life_then.past)
unfolding keys_at
keys-when-said settings run z t a s living =
    let m = s.life_then.member in
    let seen = seen_at settings t (upto z run) s.life_then s.next in
    let sak = sak_in s.event.facts in
    ap keys_of_life living ∙ ap (keys_of m) (sym (turn-past m seen sak s.life_then.past))
    ∙ keys-said m (says_at m seen sak s.life_then.past)
    (ticked_past m seen sak s.life_then.past)

module _ (settings : Settings) (users : List UserFrame) (run : Run) (is : IsSetting settings)
    (stepped : IsStepped settings users run) (unforged : IsUnforged settings run)
    (fresh : AllDiffer (drawn_mis run)) (from : Since) (paced : IsPaced from run) where
  -- a station's life right after it said something
  pub life-when-said : (z t : ℕ) (a : Announcement) (s : Said settings run z t a)
      → life settings t (upto (suc z) run) ≡ Some
      (lived s.life_then (turn_at_tick settings t (upto z run) s.life_then s.next
      (sak_in s.event.facts)))
  life-when-said z t a s =
      elim (key-part settings users run is stepped unforged fresh t z s.event s.within s.at) [
        | lived.rests same none ↦ let e = sym none
            ∙ ap (Rattle.group_safety.proofs.rollover.Waits.tick_of t) s.tick in
            let yes : (t == t) ≡ true = eq-eqb t t refl in absurd (cc (rw yes at e))
        | lived.ticks next l ev living after before keys ↦
            let same_n : next ≡ s.next = let f = sym ev ∙ s.tick in cc (f) in
            let same_l : l ≡ s.life_then = let f = sym living ∙ s.living in cc (f) in
            ap (life settings t) s.at ∙ after
            ∙ ap (λ v. Some (lived l (turn_at_tick settings t (upto z run) l v
            (sak_in s.event.facts)))) same_n
            ∙ ap (λ v. Some (lived v (turn_at_tick settings t (upto z run) v s.next
            (sak_in s.event.facts)))) same_l
        | lived.hears number octets l b
            (parts.delivered f there same ev) living right after before keys ↦ let e = sym ev
            ∙ s.tick in absurd (cc (e))
        | lived.hears number octets l b (parts.injected zero_is ev) living right after before keys ↦
            let e = sym ev ∙ s.tick in absurd (cc (e))
        | lived.born l (parts.first name sci priority ev same) none mi fact ↦ let e = sym ev
            ∙ s.tick in absurd (cc (e))
        | lived.born l (parts.again ev) none mi fact ↦ let e = sym ev ∙ s.tick in absurd (cc (e))
      ]

  abbrev Before : ℕ → KeyId → Type 0
  Before n id = (z s : ℕ) × (z < n) × LedAt settings run z s id

  before-later : (n m : ℕ) (id : KeyId) → n ≤ m → Before n id → Before m id
  before-later n m id less b = (b.0, b.1, omega (arith, b.2), b.3)

  abbrev IsLed : ℕ → Type 0
  IsLed n = (u : ℕ) (k : Key) → Has k (installs (keys_at settings u (upto n run)))
      → has_begun (keys_at settings u (upto n run)) k.epoch ≡ true → Before n k.id

  no-keys : (u : ℕ) (k : Key) (h : List Keying) → h ≡ [] → Has k (installs h) → ⊥
  no-keys u k h none has = subst (λ w. Has k (installs w)) none has

  -- what a member follows, a station said that had begun it
  followed-led : (n u : ℕ) (x : Happening) (number : ℕ) (octets : List ℕ) (l : Life)
      (a : Announcement) (b : Beginning) (id : KeyId) → n < length run → At run n x
      → IsReached (upto n run) x.event u number octets → life settings u (upto n run) ≡ Some l
      → judged l.member.setup octets ≡ Ok a
      → follow_at l.member a l.past ≡ Some b → b.key.id ≡ id → ((w : ℕ) → w ≤ n → IsLed w)
      → Before n id
  followed-led n u x number octets l a b id high at came living right follow named earlier =
      let f = following-is (view l.member (taken_past l.member a l.past))
      (outcome_of l.member l.past a) a b follow in
      let said = reached-said settings users run is stepped unforged fresh n x u number octets l a
      high at came living right in
      let z : ℕ = said.0 in
      let t : ℕ = said.1 in
      let s : Said settings run z t a = said.3 in
      let seen = seen_at settings t (upto z run) s.life_then s.next in
      let sak = sak_in s.event.facts in
      let sends = said-transmitting s.life_then.member seen sak s.life_then.past a f.uses b.key.id
      s.said f.said f.sends in
      let keys = keys-when-said settings run z t a s (life-when-said z t a s) in
      let k : Key = sends.0 in
      let there : transmitting (keys_at settings t (upto (suc z) run)) ≡ Some k =
      ap transmitting keys ∙ sends.1 in
      let last = transmitting-last (keys_at settings t (upto (suc z) run)) k there in
      let less = said.2 in
      let led_then = earlier (suc z) less t k
      (received-installed (keys_at settings t (upto (suc z) run)) k last.1)
      (last-begun-begun (keys_at settings t (upto (suc z) run)) k.epoch last.0) in
      subst (λ i. Before n i) (sends.2 ∙ named) (before-later (suc z) n k.id less led_then)

  kept-before : (u n : ℕ) (l : Life) → life settings u (upto n run) ≡ Some l
      → keys_at settings u (upto n run) ≡ keys_in l → n < length run
      → KeepsRules l.member.base (keys_at settings u (upto n run))
  kept-before u n l living before high =
      subst (KeepsRules l.member.base) (sym before)
      (life-kept settings users run is stepped unforged fresh n (omega arith) u l living)

  led-on : (n : ℕ) → n < length run → ((w : ℕ) → w ≤ n → IsLed w) → IsLed (suc n)
  led-on n high earlier u k has begun =
      let s = event-at n run high in
      let x : Happening = s.0 in
      let at = s.1 in
      elim (key-part settings users run is stepped unforged fresh u n x high at) [
        | lived.rests same none ↦
            let now = ap (keys_at settings u) at ∙ same in
            before-later n (suc n) k.id (omega arith)
            (earlier n (omega arith) u k (subst (λ w. Has k (installs w)) now has)
            (subst (λ w. has_begun w k.epoch ≡ true) now begun))
        | lived.ticks next l ev living after before keys ↦
            let t = tick-turn-at settings users run is stepped unforged fresh from paced u n next x
            l at before keys in
            by_sum (begun-in l.member.base (keys_at settings u (upto n run))
            (keys_at settings u (upto (suc n) run)) t.turn k
            (kept-turn l.member.base (keys_at settings u (upto n run))
            (keys_at settings u (upto (suc n) run)) t.turn
            (kept-before u n l living before high)) has begun)
            (λ old. before-later n (suc n) k.id (omega arith)
            (earlier n (omega arith) u k old.0 old.1))
            (λ new. by_sum new.1
            (λ lead. (
              n,
              u,
              omega arith,
              record {
                event = x;
                at = at;
                within = high;
                next =
                    next;
                tick = ev;
                life_then = l;
                living = living;
                by = new.0;
                leads = sym t.lead_is
                    ∙ lead;
                named = new.2;
              },
            ))
            (λ follow. let f = sym t.follow_is ∙ follow in absurd (cc (f))))
        | lived.hears number octets l a came living right after before keys ↦
            let t = hear-turn-at settings users run is stepped unforged fresh from paced u n x l a
            at before keys in
            by_sum (begun-in l.member.base (keys_at settings u (upto n run))
            (keys_at settings u (upto (suc n) run)) t.turn k
            (kept-turn l.member.base (keys_at settings u (upto n run))
            (keys_at settings u (upto (suc n) run)) t.turn
            (kept-before u n l living before high)) has begun)
            (λ old. before-later n (suc n) k.id (omega arith)
            (earlier n (omega arith) u k old.0 old.1))
            (λ new. by_sum new.1
            (λ lead. let f = sym t.lead_is ∙ lead in absurd (cc (f)))
            (λ follow. before-later n (suc n) k.id (omega arith)
            (followed-led n u x number octets l a new.0 k.id high at came living right
            (sym t.follow_is ∙ follow) new.2 earlier)))
        | lived.born l birth none mi fact ↦ absurd
            (no-keys u k (keys_at settings u (upto (suc n) run))
            (ap (keys_at settings u) at ∙ none) has)
      ]

  led-none : IsLed 0
  unfolding keys_at life
  led-none u k has begun = absurd
      (no-keys u k (keys_at settings u (upto 0 run)) (ap (keys_at settings u) (upto-zero run)) has)

  led-all : (n : ℕ) → n ≤ length run → (w : ℕ) → w ≤ n → IsLed w
  led-all n high =
      from_to (λ m. (w : ℕ) → w ≤ m → IsLed w) 0 n (omega arith)
      (λ w p. subst IsLed (let e : 0 ≡ w = omega arith in e) led-none)
      (λ m p q h w l. by_sum (cases_lt m w)
      (λ less. let e : suc m ≡ w = omega arith in subst IsLed e (led-on m (omega arith) h))
      (λ le. h w le))

  -- A key that a station has begun, a key server led before.
  pub begun-led : (n u : ℕ) (k : Key) → n ≤ length run
      → Has k (installs (keys_at settings u (upto n run)))
      → has_begun (keys_at settings u (upto n run)) k.epoch ≡ true
      → (z s : ℕ) × (z < n) × LedAt settings run z s k.id
  begun-led n u k high has begun = led-all n high n (omega arith) u k has begun
