-- A key that a station has installed after an event was installed before it; or it is the one whose
-- install the event's facts show, and it is held under the association number that they show.
use Rattle.std.proofs.Common.{◌≡◌, ◌+◌, ℕ, ◌==◌, Bool, List, [], ◌∷◌, ◌++◌, length, filter}
use Rattle.std.proofs.Common.{Option, Some, None, refl, sym, ap, ◌∙◌, subst, arith, inl, inr}
use Rattle.std.specs.Prelude.{◌⊎◌, option_and_then, option_map, option_to_list}
use Rattle.std.specs.List.{find}
use Rattle.std.proofs.lemmas.Bool.{cases_Bool, eqb-true}
use Rattle.lan_base.specs.declared.association_number.AssociationNumber.{AssociationNumber}
use Rattle.lan_base.specs.declared.key_id.KeyId.{KeyId}
use Rattle.lan_base.specs.declared.address.Mi.{Mi}
use Rattle.lan_base.specs.declared.frame.UserFrame.{UserFrame}
use Rattle.lan_base.specs.AssociationNumbers.{same_an}
use Rattle.aes_block.specs.declared.secret.Secret.{Secret}
use Rattle.sak_exchange.specs.declared.held_key.HeldKey.{HeldKey}
use Rattle.sak_exchange.specs.declared.held_key.Key.{Key}
use Rattle.sak_exchange.specs.Beginning.{Beginning}
use Rattle.sak_exchange.specs.Histories.{Keying, install_count, installs, last_key}
use Rattle.sak_exchange.specs.Held.{KeepsRules, has_epoch, held, latest, old, received}
use Rattle.sak_exchange.specs.Lives.{Has}
use Rattle.mka_station.specs.Hearing.{hear_turn}
use Rattle.mka_station.specs.Lives.{keys_of}
use Rattle.lan_core.specs.declared.fact.Fact.{Fact}
use Rattle.lan_core.specs.declared.fact.Fact.TheVariants as facts
use Rattle.lan_core.specs.declared.settings.Settings.{Settings}
use Rattle.lan_core.specs.Counted.{AreCounted}
use Rattle.lan_core.specs.Keys.{held_at, held_under}
use Rattle.lan_core.specs.Ledgers.{Install, gather, install_of, installs as installed, installs_at}
use Rattle.lan_core.specs.Legal.{IsStep, IsStepped}
use Rattle.lan_core.specs.Lives.{Life, keys_in, life, lived, sak_in, seen_at, turn_at_tick}
use Rattle.lan_core.specs.Run.{Happening, Run}
use Rattle.lan_core.proofs.Public.{lives-count}
use Rattle.group_safety.proofs.Public.{In, IsTurn, hear-is_turn, one-epoch, part}
use Rattle.group_safety.proofs.Public.{received-installed, tick-is_turn, with_began, with_key, with_tick}
use Rattle.group_safety.proofs.Public as parts
use Rattle.worker_races.specs.merge.Sealing.{HasInLife}

-- ---- a key that is held was installed

find-has : (p : Key → Bool) (ks : List Key) (k : Key) → find p ks ≡ Some k → Has k ks
find-has p [] k is = absurd (cc is)
find-has p (j ∷ ks) k is = elim (cases_Bool (p j)) [
  | inl passes ↦ (let here : Some j ≡ Some k = rw passes at is in inl (cc here))
  | inr fails ↦ inr (find-has p ks k (rw fails at is))
]

in-both : (a b : Option Key) (k : Key) → Has k (option_to_list a ++ option_to_list b)
    → (a ≡ Some k) ⊎ (b ≡ Some k)
in-both None None k has = absurd has
in-both None (Some j) k (inl same) = inr (ap Some same)
in-both None (Some j) k (inr none) = absurd none
in-both (Some i) b k (inl same) = inl (ap Some same)
in-both (Some i) None k (inr none) = absurd none
in-both (Some i) (Some j) k (inr (inl same)) = inr (ap Some same)
in-both (Some i) (Some j) k (inr (inr none)) = absurd none

found-has : (p : Key → Key → Bool) (o : Option Key) (ks : List Key) (k : Key)
    → option_and_then (λ l. find (p l) ks) o ≡ Some k → Has k ks
found-has p None ks k is = absurd (cc is)
found-has p (Some l) ks k is = find-has (p l) ks k is

latest-has : (h : List Keying) (k : Key) → latest h ≡ Some k → Has k (received h)
unfolding latest
latest-has h k is = found-has (λ l. has_epoch l.epoch) (last_key h) (received h) k is

old-has : (h : List Keying) (k : Key) → old h ≡ Some k → Has k (received h)
unfolding old
old-has h k is = found-has _ (last_key h) (received h) k is

mapped-key : (h : List Keying) (o : Option Key) (g : HeldKey) → option_map (held h) o ≡ Some g
    → o ≡ Some g.key
mapped-key h None g is = absurd (cc is)
mapped-key h (Some k) g is =
    let same : held h k ≡ g = cc is in ap (λ (x : HeldKey). Some x.key) same

held-has : (h : List Keying) (an : AssociationNumber) (g : HeldKey) → held_under h an ≡ Some g
    → Has g.key (installs h)
held-has h an g is =
    let found = mapped-key h _ g is in
    let has = find-has (λ k. same_an k.an an) (option_to_list (latest h) ++ option_to_list (old h)) g.key found in
    received-installed h g.key (elim (in-both (latest h) (old h) g.key has) [
      | inl last ↦ latest-has h g.key last
      | inr before ↦ old-has h g.key before
    ])

-- ---- what a turn installs

-- a key that a turn installed, the next one
record IsNewIn (base : ℕ) (h g : List Keying) (k : Key) : Type 0 where
  epoch : k.epoch ≡ (base + install_count h) + 1
  count : install_count g ≡ install_count h + 1

began-installs : (b : Option Beginning) (h : List Keying) → installs (with_began b h) ≡ installs h
began-installs None h = refl
began-installs (Some b) h = refl

began-count : (b : Option Beginning) (h : List Keying) → install_count (with_began b h) ≡ install_count h
began-count None h = refl
began-count (Some b) h = refl

tick-installs : (t : Option Bool) (h : List Keying) → installs (with_tick t h) ≡ installs h
tick-installs None h = refl
tick-installs (Some s) h = refl

tick-count : (t : Option Bool) (h : List Keying) → install_count (with_tick t h) ≡ install_count h
tick-count None h = refl
tick-count (Some s) h = refl

key-installs : (r : Option (List Mi)) (key : Option Key) (h : List Keying) (k : Key)
    → Has k (installs (with_key r key h)) → Has k (installs h) ⊎ (key ≡ Some k)
key-installs r None h k has = inl has
key-installs r (Some n) h k (inl same) = inr (ap Some same)
key-installs r (Some n) h k (inr before) = inl before

key-count : (r : Option (List Mi)) (key : Option Key) (h : List Keying) (k : Key) → key ≡ Some k
    → install_count (with_key r key h) ≡ install_count h + 1
key-count r None h k is = absurd (cc is)
key-count r (Some n) h k is = refl

new-turn : (base : ℕ) (h g : List Keying) (k : Key) → IsTurn base h g → Has k (installs g)
    → Has k (installs h) ⊎ IsNewIn base h g k
new-turn base h g k t has =
    let led = with_began t.lead (with_tick t.tick h) in
    let before : installs led ≡ installs h =
    began-installs t.lead (with_tick t.tick h) ∙ tick-installs t.tick h in
    let many : install_count led ≡ install_count h =
    began-count t.lead (with_tick t.tick h) ∙ tick-count t.tick h in
    let whole = subst (λ (x : List Keying). Has k (installs x)) t.whole has in
    let here = subst (Has k) (began-installs t.follow (with_key t.roster t.key led)) whole in
    elim (key-installs t.roster t.key led k here) [
      | inl was ↦ inl (subst (Has k) before was)
      | inr is ↦ inr (record {
        epoch = (t.may_install k is).0 ∙ ap (λ n. (base + n) + 1) many;
        count = ap install_count t.whole ∙ began-count t.follow (with_key t.roster t.key led)
            ∙ key-count t.roster t.key led k is ∙ ap (λ n. n + 1) many;
      })
    ]

-- ---- what an event installs

keys-new : (l : Life) → l.past ≡ [] → keys_in l ≡ []
unfolding keys_of
keys-new l none = rw none refl

-- a key that an event installed, the next one of its station
pub record IsNewAt (settings : Settings) (s : ℕ) (x : Happening) (r : Run) (k : Key) : Type 0 where
  pub lives : (m : Life) × (life settings s r ≡ Some m)
  pub epoch : k.epoch ≡ length (installs_at s r) + 1
  pub count : length (installs_at s (x ∷ r)) ≡ length (installs_at s r) + 1

in-some : (k : Key) (o : Option Life) (l : Life) → o ≡ Some l → HasInLife k o → Has k (installs (keys_in l))
in-some k o l is has = subst (HasInLife k) is has

pub new-or-old : (settings : Settings) (users : List UserFrame) (s : ℕ) (x : Happening) (r : Run) (k : Key)
    → IsStepped settings users r → IsStep settings users x r
    → HasInLife k (life settings s (x ∷ r)) → HasInLife k (life settings s r) ⊎ IsNewAt settings s x r k
new-or-old settings users s x r k stepped step has = elim (part settings users s x r step) [
  | parts.same same none ↦ inl (subst (HasInLife k) same has)
  | parts.ticks next m ev living same ↦ grown m (lived m (turn_at_tick settings s r m next (sak_in x.facts))) living
      same refl (tick-is_turn m.member (seen_at settings s r m next) (sak_in x.facts) m.past)
  | parts.hears number octets m a came living sec right same ↦ grown m (lived m (hear_turn m.member a m.past)) living same refl
      (hear-is_turn m.member a m.past)
  | parts.born m none birth same fact ↦ absurd
      (subst (λ h. Has k (installs h)) (keys-new m none) (in-some k (life settings s (x ∷ r)) m same has))
] where
  grown : (m l : Life) → life settings s r ≡ Some m → life settings s (x ∷ r) ≡ Some l
      → l.member.base ≡ m.member.base → IsTurn m.member.base (keys_in m) (keys_in l)
      → HasInLife k (life settings s r) ⊎ IsNewAt settings s x r k
  grown m l before after same t =
      let counted = lives-count settings users r stepped s m before in
      let now = lives-count settings users (x ∷ r) (step, stepped) s l after in
      elim (new-turn m.member.base (keys_in m) (keys_in l) k t (in-some k (life settings s (x ∷ r)) l after has)) [
        | inl was ↦ inl (subst (HasInLife k) (sym before) was)
        | inr new ↦ inr (record {
          lives = (m, before);
          epoch = (let e = new.epoch in omega (arith, e, counted));
          count = (let c = new.count in omega (arith, c, counted, now, same));
        })
      ]

-- ---- the fact that shows it

count_at : ℕ → List Install → ℕ
count_at s is = length (filter (λ i. i.station == s) is)

-- an install of a station in facts
pub record IsShownIn (s epoch : ℕ) (shown : List Fact) : Type 0 where
  pub id : KeyId
  pub an : AssociationNumber
  pub sak : Secret
  pub fact : In (facts.Installed s id an epoch sak) shown

shown-later : (s epoch : ℕ) (fact : Fact) (shown : List Fact) → IsShownIn s epoch shown
    → IsShownIn s epoch (fact ∷ shown)
shown-later s epoch fact shown is = record { id = is.id; an = is.an; sak = is.sak; fact = inr is.fact }

counted-front : (shown : List Fact) (older : List Install) → AreCounted (gather install_of shown older) → AreCounted older
counted-front [] older are = are
counted-front (facts.Installed t id an epoch sak ∷ later) older are = (counted-front later _ are).1
counted-front (_ ∷ later) older are = counted-front later older are

shown-new : (s : ℕ) (shown : List Fact) (older : List Install)
    → count_at s (gather install_of shown older) ≡ count_at s older + 1
    → AreCounted (gather install_of shown older) → IsShownIn s (count_at s older + 1) shown
unfolding count_at
shown-new s [] older more are = absurd (omega (arith, more))
shown-new s (facts.Installed t id an epoch sak ∷ later) older more are = elim (cases_Bool (t == s)) [
  | inl own ↦ (let at = eqb-true t s own in
      let here = (counted-front later _ are).0 in
      let number : epoch ≡ length (filter (λ i. i.station == s) older) + 1 =
      here ∙ ap (λ (u : ℕ). length (filter (λ (i : Install). i.station == u) older) + 1) at in
      record { id = id; an = an; sak = sak; fact = inl (λ i. facts.Installed (sym at i) id an (sym number i) sak) })
  | inr other ↦ (let same : length (filter (λ (i : Install). i.station == s) (record {
    station = t;
    id = id;
    an = an;
    epoch = epoch;
    sak = sak;
  } ∷ older)) ≡ length (filter (λ (i : Install). i.station == s) older) = rw other refl in
      let rest = shown-new s later _ (more ∙ ap (λ n. n + 1) (sym same)) are in
      shown-later s _ _ later (subst (λ n. IsShownIn s n later) (ap (λ n. n + 1) same) rest))
]
shown-new s (_ ∷ later) older more are = shown-later s _ _ later (shown-new s later older more are)

-- the key that an event installed is shown by its facts
pub new-shown : (settings : Settings) (s : ℕ) (x : Happening) (r : Run) (k : Key)
    → AreCounted (installed (x ∷ r)) → IsNewAt settings s x r k → IsShownIn s k.epoch x.facts
unfolding installed count_at
new-shown settings s x r k counted new =
    subst (λ n. IsShownIn s n x.facts) (sym new.epoch)
    (shown-new s x.facts (installed r) new.count counted)

-- and held under the association number that they show
pub new-held : (settings : Settings) (s : ℕ) (x : Happening) (r : Run) (k : Key) (l : Life)
    (an : AssociationNumber) (g : HeldKey) → KeepsRules l.member.base (keys_in l)
    → life settings s (x ∷ r) ≡ Some l → Has k (installs (keys_in l))
    → held_at settings s (x ∷ r) an ≡ Some g → g.key.epoch ≡ k.epoch → g.key ≡ k
new-held settings s x r k l an g kept living has is same =
    one-epoch l.member.base (keys_in l) g.key k kept
    (held-has (keys_in l) an g (sym (ap (option_and_then (λ (m : Life). held_under (keys_in m) an)) living) ∙ is)) has same
