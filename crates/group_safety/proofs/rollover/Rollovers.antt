-- A steady rollover of a run, at its server.
use Rattle.std.proofs.Common.{◌≡◌, ◌⊎◌, inl, inr, ℕ, suc, ◌≤◌, ◌<◌, Bool, true, false, List, []}
use Rattle.std.proofs.Common.{◌∷◌, ◌++◌, length, refl, ap, sym, ◌∙◌, subst, arith}
use Rattle.std.proofs.Common.{Option, Some, None, is_some, option_map}
use Rattle.std.proofs.lemmas.Bool.{cases_lt, eq-eqb}
use Rattle.std.proofs.lemmas.List.{append_assoc}
use Rattle.lan_base.specs.declared.address.Mi.{Mi}
use Rattle.lan_base.specs.declared.key_id.KeyId.{KeyId}
use Rattle.lan_base.specs.declared.frame.UserFrame.{UserFrame}
use Rattle.sak_exchange.specs.declared.change.Cause.TheVariants.{All}
use Rattle.sak_exchange.specs.declared.held_key.Key.{Key}
use Rattle.sak_exchange.specs.Histories.{Keying, ticked, began, installed, clock, installs}
use Rattle.sak_exchange.specs.Histories.{begun_at, has_begun, install_count, last_roster}
use Rattle.sak_exchange.specs.Held.{KeepsRules, latest, old, allows}
use Rattle.sak_exchange.specs.Beginning.{Beginning, is_latest_made}
use Rattle.sak_exchange.specs.Lives.{Has, IsNumbered}
use Rattle.sak_exchange.proofs.Public.{by_test, by_option, latest-epoch, first-is, keys-installed}
use Rattle.sak_exchange.proofs.Public.{latest-stays, begun-stays}
use Rattle.mka_station.specs.Lives.{Member, Entry, keys_of}
use Rattle.mka_station.specs.Lives as lives
use Rattle.mka_station.specs.Views.{view}
use Rattle.mka_station.specs.Tick.{led, made}
use Rattle.mka_station.specs.Hearing.{outcome_of}
use Rattle.mka_station.specs.Hearing.{taken_past}
use Rattle.lan_core.specs.declared.event.Event.TheVariants as events
use Rattle.lan_core.specs.declared.settings.Settings.{Settings}
use Rattle.lan_core.specs.Run.{Run, Happening}
use Rattle.lan_core.specs.Lives.{Life, life, seen_at, sak_in}
use Rattle.lan_core.specs.Types.{IsSetting}
use Rattle.lan_core.specs.Legal.{IsStepped}
use Rattle.lan_base.specs.Differing.{AllDiffer}
use Rattle.lan_core.specs.Fresh.{IsUnforged, drawn_mis}
use Rattle.group_safety.specs.Moments.{upto, At}
use Rattle.group_safety.specs.Stations.{mi_at, keys_at, server_at}
use Rattle.group_safety.specs.Steady.{Rollover, IsSteady}
use Rattle.group_safety.proofs.rollover.Course.{Course, IsCourse, Lives, Rests, RestsThrough}
use Rattle.group_safety.proofs.rollover.Course.{IsRollover}
use Rattle.group_safety.proofs.Members.{contains-in, by_sum}
use Rattle.group_safety.proofs.once.Living.{IsLiving}
use Rattle.group_safety.proofs.once.Histories.{with_began, with_key, view-keys, keys-ticked}
use Rattle.group_safety.proofs.once.Histories.{count-began}
use Rattle.group_safety.proofs.rollover.Spans.{grown, lives-later, from_to}
use Rattle.group_safety.proofs.rollover.AtMoments.{one-event}
use Rattle.group_safety.proofs.rollover.KeyFacts.{installed-on, latest-received, received-installed}
use Rattle.group_safety.proofs.rollover.Begins.{IsLed, led-is, making-is, following-is}
use Rattle.group_safety.proofs.rollover.EventKinds.{kind}
use Rattle.group_safety.proofs.rollover.Shows.{begins-by, puts-by}
use Rattle.group_safety.proofs.rollover.Shows as shows
use Rattle.group_safety.proofs.rollover.Turns.{IsTickTurn, kept-turn}
use Rattle.group_safety.proofs.rollover.Turns.{with_tick}
use Rattle.group_safety.proofs.rollover.TicksAreRounds.{IsPaced}
use Rattle.group_safety.proofs.rollover.OneLife.{step-at, one-life, unbroken-life}
use Rattle.group_safety.specs.Rounds.{Since}
use Rattle.group_safety.proofs.rollover.Said.{known-at}
use Rattle.group_safety.proofs.rollover.Lived.{key-part, kept-at, life-kept, one-install-at}
use Rattle.group_safety.proofs.rollover.Lived.{tick-turn-at, lives-of, rise-at, tick-settled}
use Rattle.group_safety.proofs.rollover.Lived as lived
use Rattle.group_safety.proofs.rollover.EventKinds as parts
use Rattle.group_safety.proofs.rollover.Leads.{LedAt, installed-upto, begun-led}
use Rattle.group_safety.proofs.rollover.Makers.{MadeAt, keys-of-life, mi-of-life, made-own}
use Rattle.group_safety.proofs.rollover.Makers.{make-names, turn-puts}
use Rattle.group_safety.proofs.rollover.Servers.{KeyTurn, rests, makes, takes, installs-at}
use Rattle.group_safety.proofs.rollover.Servers.{the-course}

-- ---- one tick

-- a tick in which a key begins makes none
none-made : (m : Member) (p : List Entry) (seen : _) (sak : _) (b : Beginning)
    → led m (view m (lives.ticked ∷ p)) ≡ Some b
    → made m (view m (lives.ticked ∷ p)) seen sak ≡ None
none-made m p seen sak b leads =
    by_option (made m (view m (lives.ticked ∷ p)) seen sak) (λ none. none)
    (λ k is. let r = making-is m (view m (lives.ticked ∷ p)) seen sak k is in let f = sym leads
    ∙ r.none_led in absurd (cc (f)))

began-now : (e : ℕ) (h : List Keying) → begun_at (began e ∷ h) e ≡ Some (clock (began e ∷ h))
began-now e h = let t = eq-eqb e e refl in rw t refl

-- a key that is led is named after the life
led-owner : (m : Member) (p : List Entry) (b : Beginning) → IsLed m (view m (lives.ticked ∷ p)) b
    → IsNumbered m.mi (keys_of m p) → KeepsRules m.base (keys_of m p) → b.key.id.server ≡ m.mi
led-owner m p b r numbered kept =
    let now = view-keys m (lives.ticked ∷ p) ∙ keys-ticked m p in
    let h = keys_of m p in
    let s : Bool = is_some (lives.elected m (lives.ticked ∷ p)) in
    let newest = subst (λ w. latest w ≡ Some b.key) now r.latest_key in
    let first = first-is m.base (ticked s ∷ h) b.key kept newest in
    let here = subst (λ w. is_latest_made w ≡ true) now r.made_here in
    by_option (last_roster h)
    (λ none. let f = rw (newest, none) at here in absurd (cc (f)))
    (λ q some. made-own m.mi (ticked s ∷ h) b.key q numbered first.last some)

-- what a tick in which a key begins leaves
pub record IsBeginning (h g : List Keying) (k : Key) : Type 0 where
  pub latest_is : latest g ≡ Some k
  pub begun_is : begun_at g k.epoch ≡ Some (clock g)

pub beginning-tick : (m : Member) (seen : _) (sak : _) (p : List Entry) (h g : List Keying)
    (b : Beginning) → IsTickTurn m seen sak p h g → KeepsRules m.base g
    → led m (view m (lives.ticked ∷ p)) ≡ Some b → IsBeginning h g b.key
beginning-tick m seen sak p h g b t kept leads =
    let h1 = with_tick t.turn.tick h in
    let none = t.key_is ∙ none-made m p seen sak b leads in
    let lead = t.lead_is ∙ leads in
    let whole : g ≡ began b.key.epoch ∷ h1 =
    t.turn.whole ∙ ap (λ o. with_began o
    (with_key t.turn.roster t.turn.key (with_began t.turn.lead h1))) t.follow_is
    ∙ ap (λ o. with_key t.turn.roster o (with_began t.turn.lead h1)) none
    ∙ ap (λ o. with_began o h1) lead in
    let newest = t.turn.lead_latest b lead in
    record {
      latest_is = subst (λ w. latest w ≡ Some b.key) (sym whole)
          (latest-stays m.base (began b.key.epoch ∷ []) h1 b.key
          (subst (KeepsRules m.base) whole kept) tt newest);
      begun_is = subst (λ w. begun_at w b.key.epoch ≡ Some (clock w)) (sym whole)
          (began-now b.key.epoch h1);
    }

-- and one that makes a key
pub making-tick : (m : Member) (seen : _) (sak : _) (p : List Entry) (h g : List Keying) (k : Key)
    → IsTickTurn m seen sak p h g → KeepsRules m.base g
    → made m (view m (lives.ticked ∷ p)) seen sak ≡ Some k → latest g ≡ Some k
making-tick m seen sak p h g k t kept makes_k =
    let h2 = with_began t.turn.lead (with_tick t.turn.tick h) in
    let whole : g ≡ installed t.turn.roster k ∷ h2 =
    t.turn.whole ∙ ap (λ o. with_began o (with_key t.turn.roster t.turn.key h2)) t.follow_is
    ∙ ap (λ o. with_key t.turn.roster o h2) (t.key_is ∙ makes_k) in
    subst (λ w. latest w ≡ Some k) (sym whole)
    (keys-installed m.base h2 t.turn.roster k (subst (KeepsRules m.base) whole kept)).latest

pub count-tick : (t : Option Bool) (h : List Keying)
    → install_count (with_tick t h) ≡ install_count h
count-tick None h = refl
count-tick (Some s) h = refl

-- ---- over a run

module _ (settings : Settings) (users : List UserFrame) (run : Run) (is : IsSetting settings)
    (stepped : IsStepped settings users run) (unforged : IsUnforged settings run)
    (fresh : AllDiffer (drawn_mis run)) (from : Since) (paced : IsPaced from run) where
  abbrev pub c : Course
  c = the-course settings users run is stepped unforged fresh from paced

  pub is-course : IsCourse c
  is-course = record {
    kept = λ u n p. kept-at settings users run is stepped unforged fresh u n p;
    rise = λ n p. rise-at settings users run is stepped unforged fresh from paced n p;
    one_install = λ u n j k p hj hk e.
        one-install-at settings users run is stepped unforged fresh u n j k hj hk e;
  }

  -- the turn of a tick at a moment
  pub tick-turn-then : (u n next : ℕ) (x : Happening) (l : Life) → n < length run → At run n x
      → x.event ≡ events.Tick u next → life settings u (upto n run) ≡ Some l
      → IsTickTurn l.member (seen_at settings u (upto n run) l next) (sak_in x.facts) l.past
      (keys_at settings u (upto n run)) (keys_at settings u (upto (suc n) run))
      × KeepsRules l.member.base (keys_at settings u (upto (suc n) run))
  tick-turn-then u n next x l high at tick living =
      elim (key-part settings users run is stepped unforged fresh u n x high at) [
        | lived.rests same none ↦ let e = sym none
            ∙ ap (Rattle.group_safety.proofs.rollover.Waits.tick_of u) tick in
            let yes : Rattle.std.specs.Prelude.nat_eq u u ≡ true = eq-eqb u u refl in
            absurd (cc (rw yes at e))
        | lived.ticks m j ev there after before keys ↦
            let same_m : m ≡ next = let f = sym ev ∙ tick in cc (f) in
            let same_l : j ≡ l = let f = sym there ∙ living in cc (f) in
            let t = tick-turn-at settings users run is stepped unforged fresh from paced u n m x j
            at before keys in
            let t2 = subst (λ v. IsTickTurn j.member (seen_at settings u (upto n run) j v)
            (sak_in x.facts) j.past (keys_at settings u (upto n run))
            (keys_at settings u (upto (suc n) run))) same_m t in
            let t3 = subst (λ (v : Life). IsTickTurn v.member
            (seen_at settings u (upto n run) v next) (sak_in x.facts) v.past
            (keys_at settings u (upto n run)) (keys_at settings u (upto (suc n) run))) same_l t2
            in
            let first = subst (KeepsRules l.member.base)
            (sym (keys-of-life settings u (upto n run) l living))
            (life-kept settings users run is stepped unforged fresh n (omega arith) u l living)
            in (
              t3,
              kept-turn l.member.base (keys_at settings u (upto n run))
                  (keys_at settings u (upto (suc n) run)) t3.turn first,
            )
        | lived.hears number octets j b
            (parts.delivered f w same ev) there right after before keys ↦ let e = sym ev ∙ tick in
            absurd (cc (e))
        | lived.hears number octets j b (parts.injected zero_is ev) there right after before keys ↦
            let e = sym ev ∙ tick in absurd (cc (e))
        | lived.born j (parts.first name sci priority ev same) none mi fact ↦ let e = sym ev
            ∙ tick in absurd (cc (e))
        | lived.born j (parts.again ev) none mi fact ↦ let e = sym ev ∙ tick in absurd (cc (e))
      ]

  -- the keys of one life grow
  pub grown-in : (u : ℕ) (m : Mi) (a b : ℕ) → a ≤ b → b ≤ length run
      → ((n : ℕ) → a ≤ n → n ≤ b → mi_at settings u (upto n run) ≡ Some m)
      → (new : List Keying) × (keys_at settings u (upto b run) ≡ new ++ keys_at settings u
      (upto a run))
  grown-in u m a b low high stays =
      from_to (λ n. (new : List Keying) ×
      (keys_at settings u (upto n run) ≡ new ++ keys_at settings u (upto a run))) a b low
      ([], refl)
      (λ n p q h. let s = lived.step-in settings users run is stepped unforged fresh from paced u n
      m (omega arith) (stays n p (omega arith)) (stays (suc n) (omega arith) q) in (
        s.new ++ h.0,
        s.whole ∙ ap (λ t. s.new ++ t) h.1
            ∙ sym (append_assoc s.new h.0 (keys_at settings u (upto a run))),
      ))

  -- after a key is installed, no earlier one is the latest
  not-latest-again : (u n d : ℕ) (k j : Key) → suc n ≤ d → d ≤ length run → Lives c u (suc n)
      → MadeAt settings run n u j → Has k (installs (keys_at settings u (upto n run)))
      → latest (keys_at settings u (upto d run)) ≡ Some k → ⊥
  not-latest-again u n d k j low high life_on m there newest =
      let t = tick-turn-then u n m.next m.event m.life_then m.within m.at m.tick m.living in
      let within = m.within in
      let h = keys_at settings u (upto n run) in
      let base : ℕ = m.life_then.member.base in
      let first = subst (KeepsRules base) (sym
      (keys-of-life settings u (upto n run) m.life_then m.living))
      (life-kept settings users run is stepped unforged fresh n
      (omega arith) u m.life_then m.living) in
      let puts : t.0.turn.key ≡ Some j = t.0.key_is ∙ m.makes in
      let epoch = (t.0.turn.may_install j puts).0 in
      let count = count-began t.0.turn.lead (with_tick t.0.turn.tick h)
      ∙ count-tick t.0.turn.tick h in
      let below = installed-upto base h k first there in
      let g = grown c u (suc n) d low high life_on in
      let now = turn-puts base h (keys_at settings u (upto (suc n) run)) t.0.turn j puts in
      let later = subst (λ w. Has j (installs w)) (sym g.whole)
      (installed-on j g.new (keys_at settings u (upto (suc n) run)) now) in
      let kept = kept-at settings users run is stepped unforged fresh u d high in
      let top = latest-epoch kept.0 (keys_at settings u (upto d run)) k kept.1 newest in
      let under = installed-upto kept.0 (keys_at settings u (upto d run)) j kept.1 later in
      omega arith

  -- ---- a steady rollover

  module _ (o : Rollover) (S : IsSteady settings run (record o { from = from })) where
    pub made-here : (k : Key) × MadeAt settings run o.made o.server k × (k.id ≡ o.new_id)
    made-here =
        let M = S.makes in
        let p = puts-by settings users (upto o.made run) M.event.event M.event.facts o.server
        M.next o.server
        o.new_id M.an M.epoch M.sak
        (kind settings users M.event (upto o.made run)
        (step-at settings users run stepped fresh o.made M.event M.within M.at)) M.tick
        (contains-in M.event.facts _ M.fact) in (
          p.puts.this,
          record {
            event = M.event;
            at = M.at;
            within = M.within;
            next = M.next;
            tick =
                M.tick;
            life_then = p.life_now;
            living = p.living;
            makes = p.puts.put;
          },
          p.puts.id_is,
        )

    -- the life of the server
    pub server-life : (n : ℕ) → o.made ≤ n → n ≤ length run
        → mi_at settings o.server (upto n run) ≡ Some o.new_id.server
    server-life =
        let m = made-here in
        let names = (make-names settings users run is stepped unforged fresh from paced o.made
        o.server m.0
        m.1).0 ∙ ap (λ (v : KeyId). Some v.server) m.2 in
        let within = S.makes.within in
        unbroken-life settings users run stepped fresh o.server o.new_id.server o.made (length run)
        (omega arith) (omega arith) names (λ n x p l at. S.unbroken.on n x p at l)

    pub server-serves : (n : ℕ) → suc o.made ≤ n → n ≤ length run
        → server_at settings o.server (upto n run) ≡ Some o.new_id.server
    server-serves n low high = S.served.on n low high ∙ server-life n (omega arith) high

    pub server-lives : Lives c o.server (suc o.made)
    server-lives = lives-of settings users run is stepped unforged fresh from paced o.server
        (suc o.made) o.new_id.server (λ n p l. server-life n (omega arith) l)

    -- the beginning
    pub led-here : (m : LedAt settings run o.start o.server o.new_id) × (m.by.cause ≡ All)
    led-here =
        let B = S.begins in
        elim (begins-by settings users (upto o.start run) B.event.event B.event.facts o.server
        o.new_id B.an
        B.epoch All
        (kind settings users B.event (upto o.start run)
        (step-at settings users run stepped fresh o.start B.event B.within B.at))
        (contains-in B.event.facts _ B.fact)) [
          | shows.leads next l ev living b ↦ (
            record {
              event = B.event;
              at = B.at;
              within = B.within;
              next = next;
              tick =
                  ev;
              life_then = l;
              living = living;
              by = b.by;
              leads = b.begins_now;
              named =
                  b.id_is;
            },
            b.cause_is,
          )
          | shows.follows number octets l a came living sec right b ↦
              let f = following-is (view l.member (taken_past l.member a l.past))
              (outcome_of l.member l.past a) a b.by b.begins_now in
              let e = sym b.cause_is ∙ f.cause in absurd (cc (e))
        ]

    abbrev L : LedAt settings run o.start o.server o.new_id
    L = led-here.0

    pub new-key : Key
    new-key = L.by.key

    pub new-named : new-key.id ≡ o.new_id
    unfolding new-key
    new-named = L.named

    pub beginning-here : IsBeginning (keys_at settings o.server (upto o.start run))
        (keys_at settings o.server (upto (suc o.start) run)) new-key
    unfolding new-key
    beginning-here =
        let t = tick-turn-then o.server o.start L.next L.event L.life_then L.within L.at L.tick
        L.living in
        beginning-tick L.life_then.member _ _ L.life_then.past
        (keys_at settings o.server (upto o.start run))
        (keys_at settings o.server (upto (suc o.start) run)) L.by t.0 t.1 L.leads

    -- before it, the key is installed and has not begun
    before-begun : Has new-key (installs (keys_at settings o.server (upto o.start run))) ×
        (has_begun (keys_at settings o.server (upto o.start run)) new-key.epoch ≡ false)
    unfolding new-key
    before-begun =
        let m = L.life_then.member in
        let p = L.life_then.past in
        let l = led-is m (view m (lives.ticked ∷ p)) L.by L.leads in
        let on : Bool = is_some (lives.elected m (lives.ticked ∷ p)) in
        let within = L.within in
        let here = keys-of-life settings o.server (upto o.start run) L.life_then L.living in
        let now = view-keys m (lives.ticked ∷ p) ∙ keys-ticked m p
        ∙ ap (λ w. ticked on ∷ w) (sym here) in
        let first = subst (KeepsRules m.base) (sym here)
        (life-kept settings users run is stepped unforged fresh o.start
        (omega arith) o.server L.life_then L.living) in
        let newest = subst (λ w. latest w ≡ Some L.by.key) now l.latest_key in (
          received-installed (ticked on ∷ keys_at settings o.server (upto o.start run)) L.by.key
              (latest-received m.base (ticked on ∷ keys_at settings o.server (upto o.start run))
              L.by.key
              first newest),
          subst (λ w. has_begun w L.by.key.epoch ≡ false) now l.unbegun,
        )

    begun-within : o.start < length run
    begun-within = S.begins.within

    made-installed : Has made-here.0 (installs (keys_at settings o.server (upto (suc o.made) run)))
    made-installed =
        let m = made-here in
        let w = m.1 in
        let t = tick-turn-then o.server o.made w.next w.event w.life_then w.within w.at w.tick
        w.living in
        turn-puts w.life_then.member.base (keys_at settings o.server (upto o.made run))
        (keys_at settings o.server (upto (suc o.made) run)) t.0.turn m.0 (t.0.key_is ∙ w.makes)

    pub latest-made : latest (keys_at settings o.server (upto (suc o.made) run)) ≡ Some made-here.0
    latest-made =
        let m = made-here in
        let w = m.1 in
        let t = tick-turn-then o.server o.made w.next w.event w.life_then w.within w.at w.tick
        w.living in
        making-tick w.life_then.member _ _ w.life_then.past (keys_at settings o.server
        (upto o.made run))
        (keys_at settings o.server (upto (suc o.made) run)) m.0 t.0 t.1 w.makes

    -- the event of the beginning is not that of the make
    pub apart : suc o.made ≤ o.start
    apart =
        by_sum (cases_lt o.made o.start) (λ less. less)
        (λ le. let order = S.order in let same : o.made ≡ o.start = omega arith in
        let m = made-here in
        let w = m.1 in
        let at = subst (λ v. At run v w.event) same w.at in
        let event = one-event o.start run w.event L.event at L.at in
        let tick : events.Tick o.server w.next ≡ events.Tick o.server L.next = sym w.tick
        ∙ ap (λ (v : Happening). v.event) event ∙ L.tick in
        let next : w.next ≡ L.next = cc (tick) in
        let living = subst (λ v. life settings o.server (upto v run) ≡ Some w.life_then) same
        w.living
        in
        let lives_same : w.life_then ≡ L.life_then = let f = sym living ∙ L.living in cc (f) in
        let makes_k = subst (λ v. made w.life_then.member
        (view w.life_then.member (lives.ticked ∷ w.life_then.past))
        (seen_at settings o.server (upto v run) w.life_then w.next) (sak_in w.event.facts)
        ≡ Some m.0) same w.makes in
        let there = subst (λ (v : Life). made v.member (view v.member (lives.ticked ∷ v.past))
        (seen_at settings o.server (upto o.start run) v w.next) (sak_in w.event.facts) ≡ Some m.0)
        lives_same makes_k in
        let none = none-made L.life_then.member L.life_then.past
        (seen_at settings o.server (upto o.start run) L.life_then w.next)
        (sak_in w.event.facts) L.by L.leads in
        let f = sym none ∙ there in absurd (cc (f)))

    -- what was installed in the server's life stays so
    server-has : (k : Key) (a b : ℕ) → suc o.made ≤ a → a ≤ b → b ≤ length run
        → Has k (installs (keys_at settings o.server (upto a run)))
        → Has k (installs (keys_at settings o.server (upto b run)))
    server-has k a b first low high has =
        let g = grown c o.server a b low high (lives-later c o.server (suc o.made) a first
        server-lives) in
        subst (λ w. Has k (installs w)) (sym g.whole)
        (installed-on k g.new (keys_at settings o.server (upto a run)) has)

    new-installed : Has new-key (installs (keys_at settings o.server (upto (suc o.start) run)))
    new-installed =
        let kept = kept-at settings users run is stepped unforged fresh o.server
        (suc o.start) begun-within in
        received-installed (keys_at settings o.server (upto (suc o.start) run)) new-key
        (latest-received kept.0 (keys_at settings o.server (upto (suc o.start) run)) new-key kept.1
        beginning-here.latest_is)

    -- the key that was made is the one that begins
    pub one-key : made-here.0 ≡ new-key
    one-key =
        let a = apart in
        one-install-at settings users run is stepped unforged fresh o.server
        (suc o.start) made-here.0 new-key
        (server-has made-here.0 (suc o.made) (suc o.start) (omega arith)
        (omega arith) begun-within made-installed) new-installed (made-here.2 ∙ sym new-named)

    server-installs : (n : ℕ) → suc o.made ≤ n → n < length run → KeyTurn settings run c o.server n
    server-installs n low high =
        installs-at settings users run is stepped unforged fresh from paced o.server n
        o.new_id.server
        o.new_id.server high (server-life n (omega arith) (omega arith))
        (server-life (suc n) (omega arith) high) (server-serves (suc n) (omega arith) high)

    -- the server installs what it makes
    pub server-may : (n : ℕ) → suc o.made ≤ n → n < length run
        → Rests c o.server n ⊎ ((k : Key) × MadeAt settings run n o.server k × (c.ticks o.server n
        ≡ 1) ×
        (allows (ticked true ∷ keys_at settings o.server (upto n run)) ≡ true))
    server-may n low high = elim (server-installs n low high) [
      | rests r ↦ inl r
      | makes k m serves ticks_one allowed ↦ inr (k, m, ticks_one, allowed)
      | takes k t serves other ↦
          let same : k.id.server ≡ o.new_id.server = let f = sym serves
          ∙ server-serves (suc n) (omega arith) high in cc (f) in
          absurd (other (server-life n (omega arith) (omega arith) ∙ ap Some (sym same)))
    ]

    rests-before : RestsThrough c o.server (suc o.made) (suc o.start)
    rests-before = record {
      on = λ n p l. let high = begun-within in
          by_sum (server-may n p (omega arith)) (λ r. r)
          (λ m. absurd (not-latest-again o.server n (suc o.start) made-here.0 m.0 l begun-within
          (lives-later c o.server (suc o.made) (suc n) (omega arith) server-lives) m.1
          (server-has made-here.0 (suc o.made) n (omega arith) p (omega arith) made-installed)
          (subst (λ w. latest (keys_at settings o.server (upto (suc o.start) run)) ≡ Some w)
          (sym one-key) beginning-here.latest_is)));
    }

    -- nobody has begun the new key before
    unbegun : (u n : ℕ) (k : Key) → n ≤ o.start → Has k (installs (keys_at settings u (upto n run)))
        → k.id ≡ o.new_id → has_begun (keys_at settings u (upto n run)) k.epoch ≡ false
    unbegun u n k low has named =
        by_test (has_begun (keys_at settings u (upto n run)) k.epoch)
        (λ yes. let within = begun-within in
        let b = begun-led settings users run is stepped unforged fresh from paced n u k
        (omega arith) has yes in
        absurd (not-before b.0 b.1 (omega (arith, b.2))
        (subst (LedAt settings run b.0 b.1) named b.3)))
        (λ no. no)
      where
        not-before : (z s : ℕ) → z < o.start → LedAt settings run z s o.new_id → ⊥
        not-before z s less m =
            let within = begun-within in
            let l = m.life_then in
            let r = led-is l.member (view l.member (lives.ticked ∷ l.past)) m.by m.leads in
            let now = view-keys l.member (lives.ticked ∷ l.past) ∙ keys-ticked l.member l.past in
            let t = tick-turn-then s z m.next m.event l m.within m.at m.tick m.living in
            let begins_then = beginning-tick l.member _ _ l.past (keys_at settings s (upto z run))
            (keys_at settings s (upto (suc z) run)) m.by t.0 t.1 m.leads in
            let has_then = received-installed (keys_at settings s (upto (suc z) run)) m.by.key
            (latest-received l.member.base (keys_at settings s (upto (suc z) run)) m.by.key t.1
            begins_then.latest_is) in
            let v : IsLiving settings (upto z run) s l =
            (known-at settings users run is stepped unforged fresh z).living s l m.living in
            let owner : m.by.key.id.server ≡ l.member.mi =
            led-owner l.member l.past m.by r v.keys.numbered
            (life-kept settings users run is stepped unforged fresh z
            (omega arith) s l m.living) in
            let mine : mi_at settings s (upto z run) ≡ Some o.new_id.server =
            mi-of-life settings s (upto z run) l m.living
            ∙ ap Some (sym owner ∙ ap (λ (w : KeyId). w.server) m.named) in
            let a = apart in
            let one = one-life settings users run stepped fresh s o.server o.new_id.server z o.start
            (omega arith) (omega arith) mine (server-life o.start (omega arith) (omega arith)) in
            let same : o.server ≡ s = one.0 in
            let g = grown-in s o.new_id.server (suc z) o.start less (omega arith)
            (λ n p k. one.1 n (omega arith) k) in
            let begun_i = subst (λ w. has_begun w m.by.key.epoch ≡ true) (sym g.1)
            (begun-stays g.0 (keys_at settings s (upto (suc z) run)) m.by.key.epoch
            (ap is_some begins_then.begun_is)) in
            let has_i = subst (λ w. Has m.by.key (installs w)) (sym g.1)
            (installed-on m.by.key g.0 (keys_at settings s (upto (suc z) run)) has_then) in
            let has_s = subst (λ w. Has m.by.key (installs (keys_at settings w (upto o.start run))))
            (sym same) has_i in
            let begun_s = subst (λ w. has_begun (keys_at settings w (upto o.start run))
            m.by.key.epoch
            ≡ true) (sym same) begun_i in
            let key = one-install-at settings users run is stepped unforged fresh o.server o.start
            m.by.key
            new-key has_s before-begun.0 (m.named ∙ sym new-named) in
            let never = subst (λ (w : Key). has_begun (keys_at settings o.server
            (upto o.start run)) w.epoch
            ≡ true) key begun_s in
            let no = before-begun.1 in cc (never, no)

    old-of : (older : Option Key) → option_map (λ (k : Key). k.id) older ≡ Some o.old_id
        → (k : Key) × (older ≡ Some k) × (k.id ≡ o.old_id)
    old-of None e = absurd (cc (e))
    old-of (Some k) e = (k, refl, let f : k.id ≡ o.old_id = cc (e) in f)

    -- The rollover, by numbers.
    pub rollover : IsRollover c o
    rollover =
        let older = old-of (old (keys_at settings o.server (upto (suc o.start) run))) S.old_held in
        let early = S.early in let a = apart in
        record {
          order = a;
          within = begun-within;
          early = omega arith;
          counted = rw S.server_counts refl;
          life = server-lives;
          old_key = older.0;
          new_key = new-key;
          old_named = older.2;
          new_named = new-named;
          old_is = older.1;
          new_is = beginning-here.latest_is;
          begun = beginning-here.begun_is;
          settled = tick-settled settings users run is stepped unforged fresh from paced o.server
              o.start
              L.next L.event L.at L.tick;
          made = latest-made ∙ ap Some one-key;
          no_makes = rests-before;
          makes = λ n p l. by_sum (server-may n (omega arith) l) (λ r. inl r) (λ m. inr (m.2, m.3));
          unbegun = unbegun;
          lag_short = S.lag_short;
        }
