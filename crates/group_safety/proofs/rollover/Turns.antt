-- What a turn adds to the keys of a life: a tick, a beginning, an install, a beginning.
use Rattle.std.proofs.Common.{◌≡◌, ◌⊎◌, inl, inr, ℕ, ◌+◌, Bool, true, List, [], ◌∷◌, ◌++◌}
use Rattle.std.proofs.Common.{Option, Some, None, is_some, refl, ap, sym, ◌∙◌, subst, arith}
use Rattle.std.specs.Prelude.{◌==◌}
use Rattle.lan_base.specs.declared.address.Mi.{Mi}
use Rattle.aes_block.specs.declared.secret.Secret.{Secret}
use Rattle.mkpdu_codec.specs.declared.announcement.Announcement.{Announcement}
use Rattle.sak_exchange.specs.declared.due.Seen.{Seen}
use Rattle.sak_exchange.specs.declared.held_key.Key.{Key}
use Rattle.sak_exchange.specs.Histories.{Keying, ticked, clock, begun_at}
use Rattle.sak_exchange.specs.Histories.{install_count}
use Rattle.sak_exchange.specs.Held.{KeepsRules, latest, allows, may_begin}
use Rattle.sak_exchange.specs.Beginning.{Beginning}
use Rattle.sak_exchange.specs.Lives.{IsQuiet}
use Rattle.sak_exchange.proofs.Public.{by_test}
use Rattle.mka_station.specs.Lives.{Member, Entry, heard, keys_of, elected}
use Rattle.mka_station.specs.Lives as lives
use Rattle.mka_station.specs.Views.{view}
use Rattle.mka_station.specs.Tick.{tick_turn, led, made, with_sent}
use Rattle.mka_station.specs.Hearing.{hear_turn}
use Rattle.mka_station.specs.Tick.{roster_at, begun_past, ticked_past, says_at}
use Rattle.mka_station.specs.Hearing.{answer_at}
use Rattle.mka_station.specs.Hearing.{taken_past, follow_at, heard_past}
use Rattle.mka_station.specs.Hearing.{key_taken}
use Rattle.group_safety.proofs.Members.{by_sum}
use Rattle.group_safety.proofs.once.Histories.{with_key, with_began, keys-begun, keys-installed}
use Rattle.group_safety.proofs.once.Histories.{keys-said, keys-heard, keys-ticked, view-keys}
use Rattle.group_safety.proofs.once.Rules.{taking-is}
use Rattle.group_safety.proofs.rollover.Begins.{led-is, making-is, following-is, may}

-- the history with a tick, if there is one
abbrev pub with_tick : Option Bool → List Keying → List Keying
with_tick None h = h
with_tick (Some s) h = ticked s ∷ h

pub turn-past : (m : Member) (seen : Seen) (sak : Secret) (p : List Entry)
    → with_sent (says_at m seen sak p) (ticked_past m seen sak p) ≡ (tick_turn m seen sak p).past
unfolding tick_turn
turn-past m seen sak p = refl

pub hear-past : (m : Member) (a : Announcement) (p : List Entry)
    → heard_past m a p ≡ (hear_turn m a p).past
unfolding hear_turn
hear-past m a p = refl

-- The keys of a life through a turn, and the rules that were kept.
pub record IsTurn (base : ℕ) (h g : List Keying) : Type 0 where
  pub tick : Option Bool
  pub lead : Option Beginning
  pub roster : Option (List Mi)
  pub key : Option Key
  pub follow : Option Beginning
  pub whole : g ≡ with_began follow (with_key roster key (with_began lead (with_tick tick h)))
  pub may_lead : (b : Beginning) → lead ≡ Some b → may_begin (with_tick tick h) b.key.epoch ≡ true
  pub lead_latest : (b : Beginning) → lead ≡ Some b → latest (with_tick tick h) ≡ Some b.key
  pub follow_latest : (b : Beginning) → follow ≡ Some b
      → latest (with_key roster key (with_began lead (with_tick tick h))) ≡ Some b.key
  pub may_install : (k : Key) → key ≡ Some k
      → (k.epoch ≡ (base + install_count (with_began lead (with_tick tick h))) + 1)
      × (allows (with_began lead (with_tick tick h)) ≡ true)
  pub may_follow : (b : Beginning) → follow ≡ Some b
      → may_begin (with_key roster key (with_began lead (with_tick tick h))) b.key.epoch ≡ true

-- ---- what it leaves

kept-tick : (base : ℕ) (t : Option Bool) (h : List Keying) → KeepsRules base h → KeepsRules base (with_tick t h)
kept-tick base None h kept = kept
kept-tick base (Some s) h kept = kept

kept-began : (base : ℕ) (b : Option Beginning) (h : List Keying) → KeepsRules base h
    → ((c : Beginning) → b ≡ Some c → may_begin h c.key.epoch ≡ true) → KeepsRules base (with_began b h)
kept-began base None h kept may = kept
kept-began base (Some b) h kept may = (may b refl, kept)

kept-key : (base : ℕ) (r : Option (List Mi)) (k : Option Key) (h : List Keying) → KeepsRules base h
    → ((j : Key) → k ≡ Some j → (j.epoch ≡ (base + install_count h) + 1) × (allows h ≡ true))
    → KeepsRules base (with_key r k h)
kept-key base r None h kept may = kept
kept-key base r (Some k) h kept may = let both = may k refl in (both.0, both.1, kept)

pub kept-turn : (base : ℕ) (h g : List Keying) → IsTurn base h g → KeepsRules base h → KeepsRules base g
kept-turn base h g t kept =
    let h1 = with_tick t.tick h in
    let h2 = with_began t.lead h1 in
    let h3 = with_key t.roster t.key h2 in
    let k1 = kept-tick base t.tick h kept in
    let k2 = kept-began base t.lead h1 k1 t.may_lead in
    let k3 = kept-key base t.roster t.key h2 k2 t.may_install in
    subst (KeepsRules base) (sym t.whole) (kept-began base t.follow h3 k3 t.may_follow)

-- ---- the new entries

abbrev pub news : Option Bool → Option Beginning → Option (List Mi) → Option Key → Option Beginning
    → List Keying
news t lead r k follow = with_began follow (with_key r k (with_began lead (with_tick t [])))

tick-new : (t : Option Bool) (h : List Keying) → with_tick t h ≡ with_tick t [] ++ h
tick-new None h = refl
tick-new (Some s) h = refl

began-new : (b : Option Beginning) (g h : List Keying) → with_began b (g ++ h) ≡ with_began b g ++ h
began-new None g h = refl
began-new (Some b) g h = refl

key-new : (r : Option (List Mi)) (k : Option Key) (g h : List Keying)
    → with_key r k (g ++ h) ≡ with_key r k g ++ h
key-new r None g h = refl
key-new r (Some k) g h = refl

pub turn-new : (base : ℕ) (h g : List Keying) (t : IsTurn base h g)
    → g ≡ news t.tick t.lead t.roster t.key t.follow ++ h
turn-new base h g t =
    t.whole
    ∙ ap (λ w. with_began t.follow (with_key t.roster t.key (with_began t.lead w)))
    (tick-new t.tick h)
    ∙ ap (λ w. with_began t.follow (with_key t.roster t.key w))
    (began-new t.lead (with_tick t.tick []) h)
    ∙ ap (with_began t.follow) (key-new t.roster t.key (with_began t.lead (with_tick t.tick [])) h)
    ∙ began-new t.follow (with_key t.roster t.key (with_began t.lead (with_tick t.tick []))) h

abbrev pub tick_count : Option Bool → ℕ
tick_count None = 0
tick_count (Some s) = 1

clock-began : (b : Option Beginning) (h : List Keying) → clock (with_began b h) ≡ clock h
clock-began None h = refl
clock-began (Some b) h = refl

clock-key : (r : Option (List Mi)) (k : Option Key) (h : List Keying)
    → clock (with_key r k h) ≡ clock h
clock-key r None h = refl
clock-key r (Some k) h = refl

clock-tick : (t : Option Bool) → clock (with_tick t []) ≡ tick_count t
clock-tick None = refl
clock-tick (Some s) = omega arith

pub news-clock : (t : Option Bool) (lead : Option Beginning) (r : Option (List Mi)) (k : Option Key)
    (follow : Option Beginning)
    → clock (news t lead r k follow) ≡ tick_count t
news-clock t lead r k follow =
    clock-began follow (with_key r k (with_began lead (with_tick t [])))
    ∙ clock-key r k (with_began lead (with_tick t []))
    ∙ clock-began lead (with_tick t []) ∙ clock-tick t

-- they install nothing and drop nothing
quiet-tick : (t : Option Bool) → ((s : Bool) → t ≡ Some s → s ≡ true) → IsQuiet (with_tick t [])
quiet-tick None on = tt
quiet-tick (Some s) on = (on s refl, tt)

quiet-began : (b : Option Beginning) (h : List Keying) → IsQuiet h → IsQuiet (with_began b h)
quiet-began None h q = q
quiet-began (Some b) h q = q

quiet-key : (r : Option (List Mi)) (k : Option Key) (h : List Keying) → k ≡ None → IsQuiet h
    → IsQuiet (with_key r k h)
quiet-key r None h none q = q
quiet-key r (Some k) h none q = absurd (cc (none))

pub news-quiet : (t : Option Bool) (lead : Option Beginning) (r : Option (List Mi)) (k : Option Key)
    (follow : Option Beginning)
    → k ≡ None → ((s : Bool) → t ≡ Some s → s ≡ true) → IsQuiet (news t lead r k follow)
news-quiet t lead r k follow none on =
    quiet-began follow (with_key r k (with_began lead (with_tick t [])))
    (quiet-key r k (with_began lead (with_tick t [])) none
    (quiet-began lead (with_tick t []) (quiet-tick t on)))

begins-began : (b : Option Beginning) (h : List Keying) (e at : ℕ)
    → begun_at (with_began b h) e ≡ Some at
    → (begun_at h e ≡ Some at) ⊎ (at ≡ clock h)
begins-began None h e at is = inl is
begins-began (Some b) h e at is =
    by_test (b.key.epoch == e)
    (λ t. let this = rw t at is in let same : clock h ≡ at = cc (this) in inr (sym same))
    (λ t. inl (rw t at is))

begins-key : (r : Option (List Mi)) (k : Option Key) (h : List Keying) (e : ℕ)
    → begun_at (with_key r k h) e ≡ begun_at h e
begins-key r None h e = refl
begins-key r (Some k) h e = refl

begins-tick : (t : Option Bool) (h : List Keying) (e : ℕ)
    → begun_at (with_tick t h) e ≡ begun_at h e
begins-tick None h e = refl
begins-tick (Some s) h e = refl

pub turn-begins : (base : ℕ) (h g : List Keying) (t : IsTurn base h g) (e at : ℕ)
    → begun_at g e ≡ Some at
    → (begun_at h e ≡ Some at) ⊎ (at ≡ clock g)
turn-begins base h g t e at is =
    let h1 = with_tick t.tick h in
    let h2 = with_began t.lead h1 in
    let h3 = with_key t.roster t.key h2 in
    let c3 : clock g ≡ clock h3 = ap clock t.whole ∙ clock-began t.follow h3 in
    let c1 : clock g ≡ clock h1 = c3 ∙ clock-key t.roster t.key h2 ∙ clock-began t.lead h1 in
    by_sum (begins-began t.follow h3 e at (subst (λ w. begun_at w e ≡ Some at) t.whole is))
    (λ l. by_sum (begins-began t.lead h1 e at (sym (begins-key t.roster t.key h2 e) ∙ l))
    (λ k. inl (sym (begins-tick t.tick h e) ∙ k))
    (λ k. inr (k ∙ sym c1)))
    (λ l. inr (l ∙ sym c3))

-- ---- the turn of a tick

pub tick-keys : (m : Member) (seen : Seen) (sak : Secret) (p : List Entry)
    → keys_of m (tick_turn m seen sak p).past
    ≡ with_key (roster_at m p) (made m (view m (lives.ticked ∷ p)) seen sak)
    (with_began (led m (view m (lives.ticked ∷ p)))
    (ticked (is_some (elected m (lives.ticked ∷ p))) ∷ keys_of m p))
tick-keys m seen sak p =
    ap (keys_of m) (sym (turn-past m seen sak p))
    ∙ keys-said m (says_at m seen sak p) (ticked_past m seen sak p)
    ∙ keys-installed m (roster_at m p) (made m (view m (lives.ticked ∷ p)) seen sak)
    (begun_past m p)
    ∙ ap (with_key (roster_at m p) (made m (view m (lives.ticked ∷ p)) seen sak))
    (keys-begun m (led m (view m (lives.ticked ∷ p))) (lives.ticked ∷ p)
    ∙ ap (with_began (led m (view m (lives.ticked ∷ p)))) (keys-ticked m p))

pub tick-is_turn : (m : Member) (seen : Seen) (sak : Secret) (p : List Entry)
    → IsTurn m.base (keys_of m p) (keys_of m (tick_turn m seen sak p).past)
tick-is_turn m seen sak p =
    let v = view m (lives.ticked ∷ p) in
    let now : v.keys ≡ ticked (is_some (elected m (lives.ticked ∷ p))) ∷ keys_of m p =
    view-keys m (lives.ticked ∷ p) ∙ keys-ticked m p in
    record {
      tick = Some (is_some (elected m (lives.ticked ∷ p)));
      lead = led m v;
      roster = roster_at m p;
      key = made m v seen sak;
      follow = None;
      whole = tick-keys m seen sak p;
      may_lead = λ b is. let l = led-is m v b is in
          subst (λ w. may_begin w b.key.epoch ≡ true) now (may v.keys b.key l.latest_key l.unbegun);
      lead_latest = λ b is. subst (λ w. latest w ≡ Some b.key) now (led-is m v b is).latest_key;
      follow_latest = λ b is. absurd (cc (is));
      may_install = λ k is. let r = making-is m v seen sak k is in
          let same : v.keys ≡ with_began (led m v)
          (ticked (is_some (elected m (lives.ticked ∷ p))) ∷ keys_of m p) =
          now ∙ ap (λ b. with_began b (ticked
          (is_some (elected m (lives.ticked ∷ p))) ∷ keys_of m p)) (sym r.none_led) in (
            subst (λ w. k.epoch ≡ (m.base + install_count w) + 1) same
                (ap (λ (w : Key). w.epoch) r.key),
            subst (λ w. allows w ≡ true) same r.allowed,
          );
      may_follow = λ b is. absurd (cc (is));
    }

-- ---- the turn of a hearing

pub hear-keys : (m : Member) (a : Announcement) (p : List Entry)
    → keys_of m (hear_turn m a p).past ≡ with_began (follow_at m a p)
    (with_key None (key_taken (answer_at m a p)) (keys_of m p))
hear-keys m a p =
    ap (keys_of m) (sym (hear-past m a p)) ∙ keys-begun m (follow_at m a p) (taken_past m a p)
    ∙ ap (with_began (follow_at m a p)) (keys-installed m None (key_taken (answer_at m a p))
    (heard a ∷ p)
    ∙ ap (with_key None (key_taken (answer_at m a p))) (keys-heard m a p))

pub hear-is_turn : (m : Member) (a : Announcement) (p : List Entry)
    → IsTurn m.base (keys_of m p) (keys_of m (hear_turn m a p).past)
hear-is_turn m a p =
    let v1 = view m (heard a ∷ p) in
    let v2 = view m (taken_past m a p) in
    let now : v1.keys ≡ keys_of m p = view-keys m (heard a ∷ p) ∙ keys-heard m a p in
    let then : v2.keys ≡ with_key None (key_taken (answer_at m a p)) (keys_of m p) =
    view-keys m (taken_past m a p) ∙ keys-installed m None (key_taken (answer_at m a p))
    (heard a ∷ p)
    ∙ ap (with_key None (key_taken (answer_at m a p))) (keys-heard m a p) in
    record {
      tick = None;
      lead = None;
      roster = None;
      key = key_taken (answer_at m a p);
      follow = follow_at m a p;
      whole = hear-keys m a p;
      may_lead = λ b is. absurd (cc (is));
      lead_latest = λ b is. absurd (cc (is));
      follow_latest = λ b is. subst (λ w. latest w ≡ Some b.key) then
          (following-is v2 _ a b is).latest_key;
      may_install = λ k is. let r = taking-is m v1 _ a k is in (
        subst (λ w. k.epoch ≡ (m.base + install_count w) + 1) now r.epoch,
        subst
            (λ w. allows w ≡ true) now r.allowed,
      );
      may_follow = λ b is. let f = following-is v2 _ a b is in
          subst (λ w. may_begin w b.key.epoch ≡ true) then
          (may v2.keys b.key f.latest_key f.unbegun);
    }

-- ---- both, with what they do

pub record IsTickTurn (m : Member) (seen : Seen) (sak : Secret) (p : List Entry)
    (h g : List Keying) : Type 0 where
  pub turn : IsTurn m.base h g
  pub tick_is : turn.tick ≡ Some (is_some (elected m (lives.ticked ∷ p)))
  pub lead_is : turn.lead ≡ led m (view m (lives.ticked ∷ p))
  pub roster_is : turn.roster ≡ roster_at m p
  pub key_is : turn.key ≡ made m (view m (lives.ticked ∷ p)) seen sak
  pub follow_is : turn.follow ≡ None

pub tick-turned : (m : Member) (seen : Seen) (sak : Secret) (p : List Entry)
    → IsTickTurn m seen sak p (keys_of m p) (keys_of m (tick_turn m seen sak p).past)
unfolding tick-is_turn
tick-turned m seen sak p = record {
  turn = tick-is_turn m seen sak p;
  tick_is = refl;
  lead_is =
      refl;
  roster_is = refl;
  key_is = refl;
  follow_is = refl;
}

pub record IsHearTurn (m : Member) (a : Announcement) (p : List Entry)
    (h g : List Keying) : Type 0 where
  pub turn : IsTurn m.base h g
  pub tick_is : turn.tick ≡ None
  pub lead_is : turn.lead ≡ None
  pub key_is : turn.key ≡ key_taken (answer_at m a p)
  pub follow_is : turn.follow ≡ follow_at m a p

pub hear-turned : (m : Member) (a : Announcement) (p : List Entry)
    → IsHearTurn m a p (keys_of m p) (keys_of m (hear_turn m a p).past)
unfolding hear-is_turn
hear-turned m a p = record {
  turn = hear-is_turn m a p;
  tick_is = refl;
  lead_is = refl;
  key_is =
      refl;
  follow_is = refl;
}
