-- With an event the cards of a station's words stay those of the keys that it installed.
use Rattle.std.proofs.Common.{◌≡◌, ◌≤◌, ◌<◌, ◌+◌, ℕ, ◌==◌, List, [], ◌∷◌, length, filter}
use Rattle.std.proofs.Common.{Option, Some, None, refl, sym, ap, ◌∙◌, subst, arith, inl, inr}
use Rattle.std.specs.Prelude.{Contains}
use Rattle.std.proofs.lemmas.Bool.{cases_Bool}
use Rattle.lan_base.specs.declared.association_number.AssociationNumber.{AssociationNumber}
use Rattle.lan_base.specs.declared.key_id.KeyId.{KeyId}
use Rattle.lan_base.specs.declared.frame.UserFrame.{UserFrame}
use Rattle.aes_block.specs.declared.secret.Secret.{Secret}
use Rattle.sak_exchange.specs.declared.held_key.HeldKey.{HeldKey}
use Rattle.sak_exchange.specs.declared.held_key.Key.{Key}
use Rattle.sak_exchange.specs.Histories.{Keying, began, install_count, installed, installs, ticked}
use Rattle.sak_exchange.specs.Held.{KeepsRules}
use Rattle.sak_exchange.specs.Lives.{Has}
use Rattle.lan_core.specs.declared.fact.Fact.{Fact}
use Rattle.lan_core.specs.declared.fact.Fact.TheVariants as facts
use Rattle.lan_core.specs.declared.settings.Settings.{Settings}
use Rattle.lan_core.specs.Counted.{AreCounted}
use Rattle.lan_core.specs.Keys.{held_at}
use Rattle.lan_core.specs.Ledgers.{Install, gather, install_of, installs as ledger, installs_at}
use Rattle.lan_core.specs.Legal.{IsStep, IsStepped}
use Rattle.lan_core.specs.Lives.{Life, keys_in, life}
use Rattle.lan_core.specs.Run.{Happening, Run}
use Rattle.lan_core.proofs.Public.{lives-count}
use Rattle.group_safety.proofs.Public.{in-contains, part}
use Rattle.group_safety.proofs.Public as parts
use Rattle.group_safety.specs.Transmitting.{Carried, CarriesAt, CarriesIn}
use Rattle.association_slots.specs.Cards.{card_at}
use Rattle.association_slots.specs.declared.view.ControlView.{ControlView}
use Rattle.sak_exchange.proofs.Public.{by_option}
use Rattle.station_words.specs.Ties.{HasCarded}
use Rattle.worker_races.specs.merge.Sealing.{HasInLife, HasInstalled}
use Rattle.worker_races.proofs.weaving.FromRun.{kept-run}
use Rattle.worker_races.proofs.weaving.Installed.{installed-now}
use Rattle.worker_races.proofs.KeysNew.{new-held, new-or-old, new-shown}

-- ---- epochs of installed keys

epoch-within : (base : ℕ) (h : List Keying) (k : Key) → KeepsRules base h → Has k (installs h)
    → (0 < k.epoch) × (k.epoch ≤ base + install_count h)
epoch-within base [] k kept has = absurd has
epoch-within base (ticked s ∷ h) k kept has = epoch-within base h k kept has
epoch-within base (installed r n ∷ h) k kept (inl same) =
    let at = ap (λ (j : Key). j.epoch) same in let next = kept.0 in (omega (arith, at, next), omega (arith, at, next))
epoch-within base (installed r n ∷ h) k kept (inr before) =
    let rest = epoch-within base h k kept.2 before in let one = rest.0 in let low = rest.1 in (omega (arith, one), omega (arith, low))
epoch-within base (began e ∷ h) k kept has = epoch-within base h k kept.1 has

-- installs are only added
more-one : (s : ℕ) (i : Install) (older : List Install)
    → length (filter (λ j. j.station == s) older) ≤ length (filter (λ j. j.station == s) (i ∷ older))
more-one s i older = elim (cases_Bool (i.station == s)) [
  | inl own ↦ rw own (omega arith)
  | inr other ↦ rw other (omega arith)
]

more-gathered : (s : ℕ) (shown : List Fact) (older : List Install)
    → length (filter (λ (j : Install). j.station == s) older)
    ≤ length (filter (λ (j : Install). j.station == s) (gather install_of shown older))
more-gathered s [] older = omega arith
more-gathered s (facts.Installed t id an epoch sak ∷ later) older =
    let i : Install = record { station = t; id = id; an = an; epoch = epoch; sak = sak } in
    let one = more-one s i older in let rest = more-gathered s later (i ∷ older) in omega (arith, one, rest)
more-gathered s (_ ∷ later) older = more-gathered s later older

more-installs : (s : ℕ) (x : Happening) (r : Run) → length (installs_at s r) ≤ length (installs_at s (x ∷ r))
unfolding ledger
more-installs s x r = more-gathered s x.facts (ledger r)

in-life : (settings : Settings) (users : List UserFrame) (s : ℕ) (k : Key) (r : Run) (o : Option Life)
    → IsStepped settings users r → life settings s r ≡ o → HasInLife k o
    → (0 < k.epoch) × (k.epoch ≤ length (installs_at s r))
in-life settings users s k r None stepped living has = absurd has
in-life settings users s k r (Some l) stepped living has =
    let low = epoch-within l.member.base (keys_in l) k (kept-run settings users r stepped s l living) has in
    let count = lives-count settings users r stepped s l living in
    let most = low.1 in (low.0, omega (arith, most, count))

pub epoch-low : (settings : Settings) (users : List UserFrame) (s : ℕ) (k : Key) (r : Run)
    → IsStepped settings users r → HasInstalled settings s k r
    → (0 < k.epoch) × (k.epoch ≤ length (installs_at s r))
epoch-low settings users s k [] stepped has = absurd has
epoch-low settings users s k (x ∷ r) stepped (inl now) =
    in-life settings users s k (x ∷ r) (life settings s (x ∷ r)) stepped refl now
epoch-low settings users s k (x ∷ r) stepped (inr before) =
    let low = epoch-low settings users s k r stepped.1 before in
    let more = more-installs s x r in let most = low.1 in (low.0, omega (arith, most, more))

-- where no life is, nothing was installed
none-before : (settings : Settings) (users : List UserFrame) (s : ℕ) (x : Happening) (r : Run)
    → IsStep settings users x r → life settings s (x ∷ r) ≡ None → life settings s r ≡ None
none-before settings users s x r step none = elim (part settings users s x r step) [
  | parts.same same kept ↦ sym same ∙ none
  | parts.ticks next m ev living same ↦ (let e = sym same ∙ none in absurd (cc e))
  | parts.hears number octets m a came living sec right same ↦ (let e = sym same ∙ none in absurd (cc e))
  | parts.born m new birth same fact ↦ (let e = sym same ∙ none in absurd (cc e))
]

pub none-installed : (settings : Settings) (users : List UserFrame) (s : ℕ) (k : Key) (r : Run)
    → IsStepped settings users r → life settings s r ≡ None → HasInstalled settings s k r → ⊥
none-installed settings users s k [] stepped none has = has
none-installed settings users s k (x ∷ r) stepped none (inl now) = subst (HasInLife k) none now
none-installed settings users s k (x ∷ r) stepped none (inr before) =
    none-installed settings users s k r stepped.1 (none-before settings users s x r stepped.0 none) before

-- ---- one event

some-life : (k : Key) (o : Option Life) → HasInLife k o → (l : Life) × (o ≡ Some l)
some-life k None has = absurd has
some-life k (Some l) has = (l, refl)

carries-count : (settings : Settings) (users : List UserFrame) (s : ℕ) (r : Run) (l : Life) (k : Carried)
    → IsStepped settings users r → life settings s r ≡ Some l → CarriesAt settings s r k
    → k.installs ≡ length (installs_at s r)
carries-count settings users s r l k stepped living carries =
    let own : CarriesIn (Some l) k = subst (λ o. CarriesIn o k) living carries in
    own.installs ∙ lives-count settings users r stepped s l living

module _ (settings : Settings) (users : List UserFrame) (s : ℕ) (x : Happening) (r : Run) (a b : Carried)
    (old new : ControlView) (stepped : IsStepped settings users r) (step : IsStep settings users x r)
    (counted : AreCounted (ledger (x ∷ r)))
    (holds : (id : KeyId) (an : AssociationNumber) (epoch : ℕ) (sak : Secret)
    → Contains x.facts (facts.Installed s id an epoch sak)
    → (h : HeldKey) × (held_at settings s (x ∷ r) an ≡ Some h) × (h.key.epoch ≡ epoch)
    × (h.key.sak ≡ sak))
    (before : CarriesAt settings s r a) (after : CarriesAt settings s (x ∷ r) b)
    (cards : (k : Key) → HasInstalled settings s k r
    → card_at old k.epoch ≡ record { sak = k.sak; conf = k.conf })
    (followed : HasCarded settings (x ∷ r) s x.facts a.installs b.installs old new) where
  -- the card of a key that was installed before
  was : (k : Key) → HasInstalled settings s k r → card_at new k.epoch ≡ record { sak = k.sak; conf = k.conf }
  was k has = by_option (life settings s r)
      (λ none. absurd (none-installed settings users s k r stepped none has))
      (λ m living.
      let low = epoch-low settings users s k r stepped has in
      let least = low.0 in let most = low.1 in
      let count = carries-count settings users s r m a stepped living before in
      followed.earlier k.epoch least (omega (arith, most, count)) ∙ cards k has)

  pub cards-on : (k : Key) → HasInstalled settings s k (x ∷ r)
      → card_at new k.epoch ≡ record { sak = k.sak; conf = k.conf }
  cards-on k (inr has) = was k has
  cards-on k (inl now) = elim (new-or-old settings users s x r k stepped step now) [
    | inl had ↦ was k (installed-now settings s k r had)
    | inr new_key ↦ (let shown = new-shown settings s x r k counted new_key in
        let h = holds shown.id shown.an k.epoch shown.sak (in-contains x.facts _ shown.fact) in
        let living = some-life k (life settings s (x ∷ r)) now in
        let l = living.0 in
        let same : h.0.key ≡ k = new-held settings s x r k l shown.an h.0
        (kept-run settings users (x ∷ r) (step, stepped) s l living.1) living.1
        (subst (HasInLife k) living.1 now) h.1 h.2 in
        let count = carries-count settings users s r new_key.lives.0 a stepped new_key.lives.1 before in
        let many = carries-count settings users s (x ∷ r) l b (step, stepped) living.1 after in
        let more : b.installs ≡ a.installs + 1 = many ∙ new_key.count ∙ ap (λ n. n + 1) (sym count) in
        ap (card_at new) (new_key.epoch ∙ ap (λ n. n + 1) (sym count))
        ∙ followed.given more shown.id shown.an k.epoch shown.sak h.0 (in-contains x.facts _ shown.fact) h.1
        ∙ ap (λ (j : Key). record { sak = j.sak; conf = j.conf }) same)
  ]
