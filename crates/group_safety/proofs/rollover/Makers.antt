-- Each installed key was made, and makes of one life have rising numbers; frames of one life too.
use Rattle.std.proofs.Common.{◌≡◌, ◌⊎◌, inl, inr, ℕ, suc, ◌+◌, ◌≤◌, ◌<◌, Bool, true, List, [], ◌∷◌}
use Rattle.std.proofs.Common.{◌++◌, length, refl, ap, sym, ◌∙◌, subst, arith}
use Rattle.std.proofs.Common.{Option, Some, None}
use Rattle.std.proofs.lemmas.Bool.{cases_lt, eq-eqb}
use Rattle.lan_base.specs.declared.address.Mi.{Mi}
use Rattle.lan_base.specs.declared.key_id.KeyId.{KeyId}
use Rattle.lan_base.specs.declared.frame.UserFrame.{UserFrame}
use Rattle.mkpdu_codec.specs.declared.announcement.Announcement.{Announcement}
use Rattle.mkpdu_codec.specs.declared.given.Given.{Given}
use Rattle.sak_exchange.specs.declared.held_key.Key.{Key}
use Rattle.sak_exchange.specs.Histories.{Keying, ticked, installed, began, installs, last_key}
use Rattle.sak_exchange.specs.Histories.{last_roster, made_count}
use Rattle.sak_exchange.specs.Held.{latest}
use Rattle.sak_exchange.specs.Beginning.{Beginning}
use Rattle.sak_exchange.specs.Lives.{Has, IsNumbered}
use Rattle.sak_exchange.proofs.Public.{first-is}
use Rattle.mka_station.specs.Lives as lives
use Rattle.mka_station.specs.Views.{view}
use Rattle.mka_station.specs.Tick.{made}
use Rattle.mka_station.specs.Hearing.{outcome_of}
use Rattle.mka_station.specs.Tick.{ticked_past}
use Rattle.lan_core.specs.declared.event.Event.TheVariants as events
use Rattle.lan_core.specs.declared.settings.Settings.{Settings}
use Rattle.lan_core.specs.Run.{Run, Happening}
use Rattle.lan_core.specs.Lives.{Life, life, keys_in, seen_at, sak_in, lived, turn_at_tick}
use Rattle.lan_core.specs.Types.{IsSetting}
use Rattle.lan_core.specs.Legal.{IsStepped}
use Rattle.lan_base.specs.Differing.{AllDiffer}
use Rattle.lan_core.specs.Fresh.{IsUnforged, drawn_mis}
use Rattle.group_safety.specs.Moments.{upto, At}
use Rattle.group_safety.specs.Stations.{mi_of, mi_at, keys_at, keys_of_life}
use Rattle.group_safety.proofs.Members.{by_sum}
use Rattle.group_safety.proofs.once.Living.{IsLiving}
use Rattle.group_safety.proofs.once.Rules.{given-is, taking-is}
use Rattle.group_safety.proofs.once.Histories.{with_began, with_key, view-keys, keys-ticked}
use Rattle.group_safety.proofs.once.Histories.{made-began}
use Rattle.group_safety.proofs.rollover.Spans.{from_to}
use Rattle.group_safety.proofs.rollover.AtMoments.{event-at, upto-zero}
use Rattle.group_safety.proofs.rollover.KeyFacts.{latest-received, received-installed}
use Rattle.group_safety.proofs.rollover.Begins.{making-is}
use Rattle.group_safety.specs.Rounds.{Since}
use Rattle.group_safety.proofs.rollover.Turns.{IsTurn, with_tick}
use Rattle.group_safety.proofs.rollover.TicksAreRounds.{IsPaced}
use Rattle.group_safety.proofs.rollover.EventKinds as parts
use Rattle.group_safety.proofs.rollover.Shown.{says-is}
use Rattle.group_safety.proofs.rollover.OneLife.{one-life}
use Rattle.group_safety.proofs.rollover.Said.{Said, known-at, reached-said}
use Rattle.group_safety.proofs.rollover.Lived.{key-part, kept-at, tick-turn-at, hear-turn-at}
use Rattle.group_safety.proofs.rollover.Lived.{lives-of}
use Rattle.group_safety.proofs.rollover.Lived as lived
use Rattle.group_safety.proofs.rollover.Leads.{keys-when-said, life-when-said}

-- ---- a life and what is seen of it

pub keys-of-life : (settings : Settings) (u : ℕ) (r : Run) (l : Life) → life settings u r ≡ Some l
    → keys_at settings u r ≡ keys_in l
unfolding keys_at
keys-of-life settings u r l living = ap keys_of_life living

pub mi-of-life : (settings : Settings) (u : ℕ) (r : Run) (l : Life) → life settings u r ≡ Some l
    → mi_at settings u r ≡ Some l.member.mi
unfolding mi_at
mi-of-life settings u r l living = ap mi_of living

-- ---- histories

-- what a turn installs
key-installs : (r : _) (key : Option Key) (h : List Keying) (k : Key)
    → Has k (installs (with_key r key h)) → Has k (installs h) ⊎ (key ≡ Some k)
key-installs r None h k has = inl has
key-installs r (Some j) h k (inl same) = inr (ap Some same)
key-installs r (Some j) h k (inr has) = inl has

began-installs : (b : Option Beginning) (h : List Keying) (k : Key)
    → Has k (installs (with_began b h)) → Has k (installs h)
began-installs None h k has = has
began-installs (Some b) h k has = has

tick-installs : (t : Option Bool) (h : List Keying) (k : Key) → Has k (installs (with_tick t h))
    → Has k (installs h)
tick-installs None h k has = has
tick-installs (Some s) h k has = has

pub turn-installs : (base : ℕ) (h g : List Keying) (t : IsTurn base h g) (k : Key)
    → Has k (installs g) → Has k (installs h) ⊎ (t.key ≡ Some k)
turn-installs base h g t k has =
    by_sum (key-installs t.roster t.key (with_began t.lead (with_tick t.tick h)) k
    (began-installs t.follow _ k (subst (λ w. Has k (installs w)) t.whole has)))
    (λ a. inl (tick-installs t.tick h k (began-installs t.lead (with_tick t.tick h) k a)))
    (λ b. inr b)

began-has : (b : Option Beginning) (h : List Keying) (k : Key) → Has k (installs h)
    → Has k (installs (with_began b h))
began-has None h k has = has
began-has (Some b) h k has = has

-- and what it installs is there
pub turn-puts : (base : ℕ) (h g : List Keying) (t : IsTurn base h g) (k : Key) → t.key ≡ Some k
    → Has k (installs g)
turn-puts base h g t k is =
    subst (λ w. Has k (installs w)) (sym t.whole)
    (began-has t.follow _ k (subst (λ o. Has k
    (installs (with_key t.roster o (with_began t.lead (with_tick t.tick h))))) (sym is)
    (inl refl)))

-- a key that a life made is named after the life
pub made-own : (own : Mi) (h : List Keying) (k : Key) (r : List Mi) → IsNumbered own h
    → last_key h ≡ Some k → last_roster h ≡ Some r → k.id.server ≡ own
made-own own [] k r n is roster = absurd (cc (is))
made-own own (ticked s ∷ h) k r n is roster = made-own own h k r n is roster
made-own own (installed None j ∷ h) k r n is roster = absurd (cc (roster))
made-own own (installed (Some q) j ∷ h) k r n is roster = let same : j ≡ k = cc (is) in
    sym (ap (λ (w : Key). w.id.server) same) ∙ n.0
made-own own (began e ∷ h) k r n is roster = made-own own h k r n is roster

made-more : (new h : List Keying) → made_count h ≤ made_count (new ++ h)
made-more [] h = omega arith
made-more (ticked s ∷ new) h = made-more new h
made-more (installed None k ∷ new) h = made-more new h
made-more (installed (Some r) k ∷ new) h = let m = made-more new h in omega arith
made-more (began e ∷ new) h = made-more new h

pub same-names : (i j : KeyId) → i.server ≡ j.server → i.number ≡ j.number → i ≡ j
same-names i j a b = ap (λ (v : Mi). let k : KeyId = record { server = v; number = i.number } in
    k) a ∙ ap (λ (v : ℕ). let k : KeyId = record { server = j.server; number = v } in k) b

-- ---- over a run

-- a station makes a key in an event
pub record MadeAt (settings : Settings) (run : Run) (z s : ℕ) (k : Key) : Type 0 where
  pub event : Happening
  pub at : At run z event
  pub within : z < length run
  pub next : ℕ
  pub tick : event.event ≡ events.Tick s next
  pub life_then : Life
  pub living : life settings s (upto z run) ≡ Some life_then
  pub makes : made life_then.member (view life_then.member (lives.ticked ∷ life_then.past))
      (seen_at settings s (upto z run) life_then next) (sak_in event.facts) ≡ Some k

module _ (settings : Settings) (users : List UserFrame) (run : Run) (is : IsSetting settings)
    (stepped : IsStepped settings users run) (unforged : IsUnforged settings run)
    (fresh : AllDiffer (drawn_mis run)) (from : Since) (paced : IsPaced from run) where
  -- ---- makers

  -- a key that is given was installed by who gives it, under the same name
  given-installed : (z t : ℕ) (a : Announcement) (g : Given) (s : Said settings run z t a)
      → a.given ≡ Some g
      → (k : Key) × Has k (installs (keys_at settings t (upto (suc z) run))) × (k.id.server ≡ a.mi)
      × (k.id.number ≡ g.number)
  given-installed z t a g s gives =
      let m = s.life_then.member in
      let seen = seen_at settings t (upto z run) s.life_then s.next in
      let sak = sak_in s.event.facts in
      let q = ticked_past m seen sak s.life_then.past in
      let says = says-is m seen sak s.life_then.past a s.said in
      let gift = given-is m (view m q) g (ap (λ (w : Announcement). w.given) says ∙ gives) in
      let within = s.within in
      let living = life-when-said settings users run is stepped unforged fresh from paced z t a s in
      let keys = keys-when-said settings run z t a s living in
      let v : IsLiving settings (upto (suc z) run) t
      (lived s.life_then (turn_at_tick settings t (upto z run) s.life_then s.next sak)) =
      (known-at settings users run is stepped unforged fresh (suc z)).living t _ living in
      let here : keys_at settings t (upto (suc z) run) ≡ keys_in
      (lived s.life_then (turn_at_tick settings t (upto z run) s.life_then s.next sak)) =
      keys-of-life settings t (upto (suc z) run) _ living in
      let same : (view m q).keys ≡ keys_at settings t (upto (suc z) run) = view-keys m q
      ∙ sym keys in
      let newest = subst (λ w. latest w ≡ Some gift.key) same gift.last in
      let kept = kept-at settings users run is stepped unforged fresh t (suc z) within in
      let first = first-is kept.0 (keys_at settings t (upto (suc z) run)) gift.key kept.1 newest in
      let numbered = subst (IsNumbered m.mi) (sym here) v.keys.numbered in
      let roster = subst (λ w. last_roster w ≡ Some gift.roster) same gift.made_here in (
        gift.key,
        received-installed (keys_at settings t (upto (suc z) run)) gift.key
            (latest-received kept.0 (keys_at settings t (upto (suc z) run)) gift.key kept.1 newest),
        made-own m.mi (keys_at settings t (upto (suc z) run)) gift.key gift.roster numbered
            first.last roster ∙ ap (λ (w : Announcement). w.mi) says,
        sym (ap (λ (x : Given). x.number) gift.same),
      )

  abbrev Made : ℕ → KeyId → Type 0
  Made n id = (z s : ℕ) × (j : Key) × (z < n) × MadeAt settings run z s j × (j.id ≡ id)

  made-later : (n m : ℕ) (id : KeyId) → n ≤ m → Made n id → Made m id
  made-later n m id less b = (b.0, b.1, b.2, omega (arith, b.3), b.4, b.5)

  abbrev HasMaker : ℕ → Type 0
  HasMaker n = (u : ℕ) (k : Key) → Has k (installs (keys_at settings u (upto n run))) → Made n k.id

  no-keys : (u : ℕ) (k : Key) (h : List Keying) → h ≡ [] → Has k (installs h) → ⊥
  no-keys u k h none has = subst (λ w. Has k (installs w)) none has

  maker-on : (n : ℕ) → n < length run → ((w : ℕ) → w ≤ n → HasMaker w) → HasMaker (suc n)
  maker-on n high earlier u k has =
      let s = event-at n run high in
      let x : Happening = s.0 in
      let at = s.1 in
      elim (key-part settings users run is stepped unforged fresh u n x high at) [
        | lived.rests same none ↦
            made-later n (suc n) k.id (omega arith)
            (earlier n (omega arith) u k (subst (λ w. Has k (installs w))
            (ap (keys_at settings u) at ∙ same) has))
        | lived.ticks next l ev living after before keys ↦
            let t = tick-turn-at settings users run is stepped unforged fresh from paced u n next x
            l at before keys in
            by_sum (turn-installs l.member.base (keys_at settings u (upto n run))
            (keys_at settings u (upto (suc n) run)) t.turn k has)
            (λ old. made-later n (suc n) k.id (omega arith) (earlier n (omega arith) u k old))
            (λ new. (
              n,
              u,
              k,
              omega arith,
              record {
                event = x;
                at = at;
                within = high;
                next =
                    next;
                tick = ev;
                life_then = l;
                living = living;
                makes = sym t.key_is ∙ new;
              },
              refl,
            ))
        | lived.hears number octets l a came living right after before keys ↦
            let t = hear-turn-at settings users run is stepped unforged fresh from paced u n x l a
            at before keys in
            by_sum (turn-installs l.member.base (keys_at settings u (upto n run))
            (keys_at settings u (upto (suc n) run)) t.turn k has)
            (λ old. made-later n (suc n) k.id (omega arith) (earlier n (omega arith) u k old))
            (λ new. let taking = taking-is l.member (view l.member (lives.heard a ∷ l.past))
            (outcome_of l.member l.past a) a k (sym t.key_is ∙ new) in
            let said = reached-said settings users run is stepped unforged fresh n x u number octets
            l a high at came living right in
            let given_key = given-installed said.0 said.1 a taking.gift said.3 taking.gives in
            let less = said.2 in
            let j : Key = given_key.0 in
            let made_then = earlier (suc said.0) less said.1 j given_key.1 in
            let same : j.id ≡ k.id = same-names j.id k.id (given_key.2 ∙ sym taking.server)
            (given_key.3 ∙ sym taking.number) in
            subst (Made (suc n)) same (made-later (suc said.0) (suc n) j.id
            (omega arith) made_then))
        | lived.born l birth none mi fact ↦ absurd
            (no-keys u k (keys_at settings u (upto (suc n) run))
            (ap (keys_at settings u) at ∙ none) has)
      ]

  maker-none : HasMaker 0
  unfolding keys_at life
  maker-none u k has = absurd (no-keys u k (keys_at settings u (upto 0 run))
      (ap (keys_at settings u) (upto-zero run)) has)

  maker-all : (n : ℕ) → n ≤ length run → (w : ℕ) → w ≤ n → HasMaker w
  maker-all n high =
      from_to (λ m. (w : ℕ) → w ≤ m → HasMaker w) 0 n (omega arith)
      (λ w p. subst HasMaker (let e : 0 ≡ w = omega arith in e) maker-none)
      (λ m p q h w l. by_sum (cases_lt m w)
      (λ less. let e : suc m ≡ w = omega arith in subst HasMaker e (maker-on m (omega arith) h))
      (λ le. h w le))

  -- each installed key was made before
  pub maker : (n u : ℕ) (k : Key) → n ≤ length run
      → Has k (installs (keys_at settings u (upto n run)))
      → (z s : ℕ) × (j : Key) × (z < n) × MadeAt settings run z s j × (j.id ≡ k.id)
  maker n u k high has = maker-all n high n (omega arith) u k has

  -- ---- numbers of makes rise

  -- who makes a key names it after its life, under the next number
  pub make-names : (z s : ℕ) (k : Key) (m : MadeAt settings run z s k)
      → (mi_at settings s (upto z run) ≡ Some k.id.server) ×
      (k.id.number ≡ made_count (keys_at settings s (upto z run)) + 1)
  make-names z s k m =
      let l = m.life_then in
      let v = view l.member (lives.ticked ∷ l.past) in
      let r = making-is l.member v (seen_at settings s (upto z run) l m.next)
      (sak_in m.event.facts) k m.makes in
      let here = keys-of-life settings s (upto z run) l m.living in
      let now = ap made_count (view-keys l.member (lives.ticked ∷ l.past)
      ∙ keys-ticked l.member l.past) in (
        mi-of-life settings s (upto z run) l m.living
            ∙ ap Some (sym (ap (λ (w : Key). w.id.server) r.key)),
        ap (λ (w : Key). w.id.number) r.key ∙ ap (λ n. n + 1) (now ∙ ap made_count (sym here)),
      )

  made-key : (r : _) (key : Option Key) (k : Key) (h : List Keying) → key ≡ Some k
      → (roster : List Mi) → r ≡ Some roster → made_count (with_key r key h) ≡ made_count h + 1
  made-key r key k h is roster some = rw (is, some) refl

  made-tick : (t : Option Bool) (h : List Keying) → made_count (with_tick t h) ≡ made_count h
  made-tick None h = refl
  made-tick (Some s) h = refl

  -- after which it has made one key more
  make-counts : (z s : ℕ) (k : Key) (m : MadeAt settings run z s k)
      → made_count (keys_at settings s (upto (suc z) run)) ≡ made_count
      (keys_at settings s (upto z run)) + 1
  make-counts z s k m =
      elim (key-part settings users run is stepped unforged fresh s z m.event m.within m.at) [
        | lived.rests same none ↦ let e = sym none
            ∙ ap (Rattle.group_safety.proofs.rollover.Waits.tick_of s) m.tick in
            let yes : Rattle.std.specs.Prelude.nat_eq s s ≡ true = eq-eqb s s refl in
            absurd (cc (rw yes at e))
        | lived.ticks next l ev living after before keys ↦
            let t = tick-turn-at settings users run is stepped unforged fresh from paced s z next
            m.event l m.at before keys in
            let same_n : next ≡ m.next = let f = sym ev ∙ m.tick in cc (f) in
            let same_l : l ≡ m.life_then = let f = sym living ∙ m.living in cc (f) in
            let puts : t.turn.key ≡ Some k = t.key_is
            ∙ ap (λ v. made l.member (view l.member (lives.ticked ∷ l.past))
            (seen_at settings s (upto z run) l v) (sak_in m.event.facts)) same_n
            ∙ ap (λ (v : Life). made v.member (view v.member (lives.ticked ∷ v.past))
            (seen_at settings s (upto z run) v m.next) (sak_in m.event.facts)) same_l
            ∙ m.makes in
            let h = keys_at settings s (upto z run) in
            ap made_count t.turn.whole ∙ made-began t.turn.follow _
            ∙ made-key t.turn.roster t.turn.key k
            (with_began t.turn.lead (with_tick t.turn.tick h)) puts _ t.roster_is
            ∙ ap (λ n. n + 1) (made-began t.turn.lead (with_tick t.turn.tick h)
            ∙ made-tick t.turn.tick h)
        | lived.hears number octets l b
            (parts.delivered f there same ev) living right after before keys ↦ let e = sym ev
            ∙ m.tick in absurd (cc (e))
        | lived.hears number octets l b (parts.injected zero_is ev) living right after before keys ↦
            let e = sym ev ∙ m.tick in absurd (cc (e))
        | lived.born l (parts.first name sci priority ev same) none mi fact ↦ let e = sym ev
            ∙ m.tick in absurd (cc (e))
        | lived.born l (parts.again ev) none mi fact ↦ let e = sym ev ∙ m.tick in absurd (cc (e))
      ]

  -- Of two makes with one server, the later is of the same station, and has the greater number.
  pub makes-rise : (z y s t : ℕ) (j k : Key) → MadeAt settings run z s j → MadeAt settings run y t k
      → j.id.server ≡ k.id.server → z < y
      → (t ≡ s) × (j.id.number < k.id.number)
  makes-rise z y s t j k m w same less =
      let a = make-names z s j m in
      let b = make-names y t k w in
      let within = w.within in
      let one = one-life settings users run stepped fresh s t j.id.server z y (omega arith)
      (omega arith) a.0 (b.0 ∙ ap Some (sym same)) in
      let lives_on = lives-of settings users run is stepped unforged fresh from paced s
      (suc z) j.id.server in (
        one.0,
        let count = make-counts z s j m in
            let number = a.1 in
            let here : k.id.number ≡ made_count (keys_at settings s (upto y run)) + 1 =
            subst (λ v. k.id.number ≡ made_count (keys_at settings v (upto y run)) + 1) one.0
            b.1 in
            let g = made-between s j.id.server (suc z) y less (omega arith)
            (λ n p q. one.1 n (omega arith) q) in
            omega arith,
      )
    where
      made-step : (u : ℕ) (m : Mi) (n : ℕ) → n < length run → mi_at settings u (upto n run) ≡ Some m
          → mi_at settings u (upto (suc n) run) ≡ Some m
          → made_count (keys_at settings u (upto n run)) ≤ made_count
          (keys_at settings u (upto (suc n) run))
      made-step u m n high here then =
          let s = lived.step-in settings users run is stepped unforged fresh from paced u n m high
          here then in
          let more = made-more s.new (keys_at settings u (upto n run)) in
          let e = ap made_count s.whole in omega arith

      made-between : (u : ℕ) (m : Mi) (a b : ℕ) → a ≤ b → b ≤ length run
          → ((n : ℕ) → a ≤ n → n ≤ b → mi_at settings u (upto n run) ≡ Some m)
          → made_count (keys_at settings u (upto a run)) ≤ made_count
          (keys_at settings u (upto b run))
      made-between u m a b low high stays =
          from_to (λ n. made_count (keys_at settings u (upto a run)) ≤ made_count
          (keys_at settings u (upto n run))) a b low (omega arith)
          (λ n p q h. let t = made-step u m n (omega arith) (stays n p (omega arith))
          (stays (suc n) (omega arith) q) in omega arith)

  -- a key is made once
  pub one-make : (z y s t : ℕ) (j k : Key) → MadeAt settings run z s j → MadeAt settings run y t k
      → j.id ≡ k.id → z ≡ y
  one-make z y s t j k m w same =
      let number = ap (λ (v : KeyId). v.number) same in
      by_sum (cases_lt z y)
      (λ less. let r = makes-rise z y s t j k m w (ap (λ (v : KeyId). v.server) same) less in
      let l = r.1 in absurd (omega arith))
      (λ le. by_sum (cases_lt y z)
      (λ less. let r = makes-rise y z t s k j w m (ap (λ (v : KeyId). v.server) (sym same)) less in
      let l = r.1 in absurd (omega arith))
      (λ le2. omega arith))
