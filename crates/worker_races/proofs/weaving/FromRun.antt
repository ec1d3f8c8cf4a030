-- What a run itself says of its steps: how the key that transmits moves, and that its epoch is above
-- 0. So control needs to be told nothing of that.
use Rattle.std.proofs.Common.{◌≡◌, ◌⊎◌, ◌<◌, ◌≤◌, ℕ, true, List, [], ◌∷◌, length, refl, sym, ap, ◌∙◌, subst, arith, inl, inr}
use Rattle.std.proofs.Common.{Option, Some, None}
use Rattle.std.specs.Prelude.{◌==◌, option_and_then, option_map, slice_get}
use Rattle.lan_base.specs.declared.frame.UserFrame.{UserFrame}
use Rattle.sak_exchange.specs.declared.held_key.Key.{Key}
use Rattle.sak_exchange.specs.Histories.{has_begun}
use Rattle.sak_exchange.specs.Held.{KeepsRules, transmitting}
use Rattle.sak_exchange.proofs.Public.{begun-upto}
use Rattle.mka_station.specs.Lives.{keys_of}
use Rattle.mka_station.specs.Hearing.{hear_turn}
use Rattle.lan_core.specs.declared.settings.Settings.{Settings}
use Rattle.lan_core.specs.Run.{Run, Happening, Profile, stations}
use Rattle.lan_core.specs.Ledgers.{installs_at}
use Rattle.lan_core.specs.Lives.{Life, life, lived, begun, keys_in, seen_at, sak_in, drawn_mi, setup_of, turn_at_tick, transmitting_at}
use Rattle.lan_base.specs.declared.address.Mi.{Mi}
use Rattle.lan_core.specs.declared.event.Event.TheVariants as events
use Rattle.lan_core.specs.Order.{Exists, is_event_of}
use Rattle.lan_core.proofs.Public.{in-a-life, lives-count}
use Rattle.std.proofs.lemmas.Bool.{eq-eqb}
use Rattle.worker_races.specs.merge.Given.{IsPast}
use Rattle.lan_core.specs.Legal.{IsStep, IsStepped}
use Rattle.group_safety.proofs.Public.{part}
use Rattle.group_safety.proofs.Public as parts
use Rattle.group_safety.proofs.Public.{IsTurn, kept-turn, tick-is_turn, hear-is_turn}
use Rattle.group_safety.proofs.Public.{received-installed, transmitting-last}
use Rattle.worker_races.proofs.weaving.KeysMove.{IsBegun, keys-move, installed-above, last-began, begun-on}

keys-new : (l : Life) → l.past ≡ [] → keys_in l ≡ []
unfolding keys_of
keys-new l none = rw none refl

-- the rules on keys are kept in each life of a stepped run
pub kept-run : (settings : Settings) (users : List UserFrame) (r : Run) → IsStepped settings users r
    → (u : ℕ) (l : Life) → life settings u r ≡ Some l → KeepsRules l.member.base (keys_in l)
unfolding life
kept-run settings users [] stepped u l e = absurd (cc e)
kept-run settings users (x ∷ r) stepped u l e = elim (part settings users u x r stepped.0) [
  | parts.same same none ↦ kept-run settings users r stepped.1 u l (sym same ∙ e)
  | parts.ticks next m ev living same ↦ (
      let now : lived m (turn_at_tick settings u r m next (sak_in x.facts)) ≡ l = let f = sym same ∙ e in cc f in
      subst (λ (w : Life). KeepsRules w.member.base (keys_in w)) now
      (kept-turn m.member.base (keys_in m) _ (tick-is_turn m.member (seen_at settings u r m next) (sak_in x.facts) m.past)
      (kept-run settings users r stepped.1 u m living)))
  | parts.hears number octets m a came living sec right same ↦ (
      let now : lived m (hear_turn m.member a m.past) ≡ l = let f = sym same ∙ e in cc f in
      subst (λ (w : Life). KeepsRules w.member.base (keys_in w)) now
      (kept-turn m.member.base (keys_in m) _ (hear-is_turn m.member a m.past) (kept-run settings users r stepped.1 u m living)))
  | parts.born m none birth same fact ↦ (
      let now : m ≡ l = let f = sym same ∙ e in cc f in
      subst (λ (w : Life). KeepsRules w.member.base (keys_in w)) now (subst (λ w. KeepsRules m.member.base w) (sym (keys-new m none)) tt))
]

-- ---- the key that transmits

pub in-life : (settings : Settings) (s : ℕ) (r : Run) (l : Life) → life settings s r ≡ Some l
    → transmitting_at settings s r ≡ transmitting (keys_in l)
in-life settings s r l is = rw is refl

pub record Sending (settings : Settings) (s : ℕ) (r : Run) (k : Key) : Type 0 where
  pub alive : Life
  pub living : life settings s r ≡ Some alive
  pub sends : transmitting (keys_in alive) ≡ Some k

sending : (settings : Settings) (s : ℕ) (r : Run) (k : Key) → transmitting_at settings s r ≡ Some k → Sending settings s r k
sending settings s r k is = go (life settings s r) refl is
  where
    go : (o : Option Life) → life settings s r ≡ o → option_and_then (λ l. transmitting (keys_in l)) o ≡ Some k → Sending settings s r k
    go None living is = absurd (cc is)
    go (Some l) living is = record { alive = l; living = living; sends = is }

-- its epoch is above 0
pub positive : (settings : Settings) (users : List UserFrame) (s : ℕ) (r : Run) (k : Key) → IsStepped settings users r
    → transmitting_at settings s r ≡ Some k → 0 < k.epoch
positive settings users s r k stepped is =
    let on = sending settings s r k is in
    let kept = kept-run settings users r stepped s on.alive on.living in
    let above = installed-above on.alive.member.base (keys_in on.alive) k kept
    (received-installed (keys_in on.alive) k (transmitting-last (keys_in on.alive) k on.sends).1) in
    omega (arith, above)

-- ---- one event of a station

pub data Goes (settings : Settings) (s p : ℕ) (c : Run) (x : Happening) : Type 0 where
  keeps : transmitting_at settings s (x ∷ c) ≡ transmitting_at settings s c → IsPast settings s (x ∷ c) p → Goes settings s p c x
  ends : transmitting_at settings s (x ∷ c) ≡ None → IsPast settings s (x ∷ c) p → Goes settings s p c x
  begins : (b : Key) → transmitting_at settings s (x ∷ c) ≡ Some b → p < b.epoch
      → ((k : Key) → transmitting_at settings s c ≡ Some k → k.epoch < b.epoch)
      → IsPast settings s (x ∷ c) b.epoch → Goes settings s p c x

turns : (settings : Settings) (s p : ℕ) (c : Run) (x : Happening) (m l : Life) → life settings s c ≡ Some m
    → life settings s (x ∷ c) ≡ Some l → l.member.base ≡ m.member.base → IsTurn m.member.base (keys_in m) (keys_in l)
    → KeepsRules m.member.base (keys_in m) → IsPast settings s c p → Goes settings s p c x
turns settings s p c x m l before after same t kept past = elim (keys-move m.member.base (keys_in m) (keys_in l) t kept) [
  | inl stay ↦ keeps (in-life settings s (x ∷ c) l after ∙ (stay ∙ sym (in-life settings s c m before))) (still p (past m before))
  | inr moved ↦ elim moved [
    | inl none ↦ ends (in-life settings s (x ∷ c) l after ∙ none) (still p (past m before))
    | inr b ↦ (let k = b.0 in let begun = b.1 in
        begins k (in-life settings s (x ∷ c) l after ∙ begun.sends) (low k begun (past m before))
        (λ j sends. begun.later j.epoch (last-began (keys_in m) j.epoch (transmitting-last (keys_in m) j (sym (in-life settings s c m before) ∙ sends)).0))
        (λ n is. (let now : l ≡ n = cc (sym after ∙ is) in subst (λ (w : Life). (k.epoch ≤ w.member.base) ⊎ (has_begun (keys_in w) k.epoch ≡ true)) now (inr begun.begun))))
  ]
]
  where
    still : (p : ℕ) → (p ≤ m.member.base) ⊎ (has_begun (keys_in m) p ≡ true) → IsPast settings s (x ∷ c) p
    still p was n is =
        let now : l ≡ n = cc (sym after ∙ is) in
        subst (λ (w : Life). (p ≤ w.member.base) ⊎ (has_begun (keys_in w) p ≡ true)) now
        (elim was [
          | inl old ↦ inl (omega (arith, old, same))
          | inr begun ↦ inr (begun-on m.member.base (keys_in m) (keys_in l) t kept p begun)
        ])

    low : (k : Key) → IsBegun m.member.base (keys_in m) (keys_in l) k → (p ≤ m.member.base) ⊎ (has_begun (keys_in m) p ≡ true) → p < k.epoch
    low k begun (inl old) = let above = begun.above in omega (arith, old, above)
    low k begun (inr was) = begun.later p was

-- the base of a life that begins again
restart-base : (settings : Settings) (s : ℕ) (c : Run) (x : Happening) (l : Life) → x.event ≡ events.Restart s
    → life settings s (x ∷ c) ≡ Some l → l.member.base ≡ length (installs_at s c)
unfolding life
restart-base settings s c x l is living =
    let own : (s == s) ≡ true = eq-eqb s s refl in
    let here = rw (is, own) at living in
    go (slice_get (stations c) s) here
  where
    go : (o : Option Profile) → option_and_then (begun settings s c x.facts) o ≡ Some l → l.member.base ≡ length (installs_at s c)
    go None e = absurd (cc e)
    go (Some p) e = mi-of (drawn_mi x.facts) e
      where
        mi-of : (o : Option Mi) → option_map (λ mi. record {
          member = record { setup = setup_of settings p; mi = mi; base = length (installs_at s c) };
          past = [];
        }) o ≡ Some l → l.member.base ≡ length (installs_at s c)
        mi-of None e = absurd (cc e)
        mi-of (Some mi) e =
            let anew : Life = record {
              member = record { setup = setup_of settings p; mi = mi; base = length (installs_at s c) };
              past = [];
            } in
            let same : anew ≡ l = cc e in
            ap (λ (w : Life). w.member.base) (sym same)

pub none-in : (l : Life) → l.past ≡ [] → transmitting (keys_in l) ≡ None
unfolding transmitting
none-in l none = rw (keys-new l none) refl

pub goes : (settings : Settings) (users : List UserFrame) (s p : ℕ) (c : Run) (x : Happening) → IsStepped settings users c
    → IsStep settings users x c → is_event_of s x.event ≡ true → Exists s c → IsPast settings s c p
    → Goes settings s p c x
goes settings users s p c x stepped step own there past = elim (part settings users s x c step) [
  | parts.same same none ↦ keeps (rw same refl) (λ l is. past l (sym same ∙ is))
  | parts.ticks next m ev living same ↦ turns settings s p c x m _ living same refl
      (tick-is_turn m.member (seen_at settings s c m next) (sak_in x.facts) m.past) (kept-run settings users c stepped s m living) past
  | parts.hears number octets m a came living sec right same ↦ turns settings s p c x m _ living same refl
      (hear-is_turn m.member a m.past) (kept-run settings users c stepped s m living) past
  | parts.born l none birth same fact ↦ ends (in-life settings s (x ∷ c) l same ∙ none-in l none) (again birth)
]
  where
    again : parts.IsBirth s c x.event → IsPast settings s (x ∷ c) p
    again (parts.first name sci priority ev at) n is = absurd (let no = rw ev at own in cc no)
    again (parts.again ev) n is =
        let base = restart-base settings s c x n ev is in
        inl (before (life settings s c) refl base)
      where
        before : (o : Option Life) → life settings s c ≡ o → n.member.base ≡ length (installs_at s c) → p ≤ n.member.base
        before None living base = absurd (let some = in-a-life settings users s c stepped there in let no = rw living at some in cc no)
        before (Some m) living base =
            let count = lives-count settings users c stepped s m living in
            elim (past m living) [
              | inl old ↦ omega (arith, old, count, base)
              | inr begun ↦ (let up = begun-upto m.member.base (keys_in m) p (kept-run settings users c stepped s m living) begun in omega (arith, up, count, base))
            ]
