-- The association number of each epoch, by what the current word was told; and what was told of the
-- keys that transmit.
use Rattle.std.proofs.Common.{◌≡◌, ◌⊎◌, ◌<◌, ◌≤◌, ℕ, ◌==◌, ◌&&◌, Bool, true, false, cond, List, [], ◌∷◌, map}
use Rattle.std.proofs.Common.{Option, Some, None, refl, sym, ap, ◌∙◌, subst, arith, inl, inr, eq-eqb}
use Rattle.std.proofs.lemmas.Bool.{cases_Bool, and_from, and_parts, eqb-true}
use Rattle.std.specs.Prelude.{option_and_then, option_map}
use Rattle.lan_base.specs.declared.association_number.AssociationNumber.{AssociationNumber}
use Rattle.association_slots.specs.Rule.{Rise, Settled}
use Rattle.association_slots.specs.Views.{In, current, newest, present_at}
use Rattle.association_slots.specs.declared.view.ControlView.{ControlView}
use Rattle.association_slots.specs.declared.view.Current.{Current}
use Rattle.sak_exchange.specs.declared.held_key.Key.{Key}
use Rattle.sak_exchange.specs.Histories.{has_begun}
use Rattle.sak_exchange.specs.Held.{transmitting}
use Rattle.lan_core.specs.declared.settings.Settings.{Settings}
use Rattle.lan_core.specs.Run.{Run}
use Rattle.lan_core.specs.Lives.{Life, life, keys_in, transmitting_at}
use Rattle.group_safety.specs.Accounts.{account_at}
use Rattle.group_safety.specs.Transmitting.{Carried, CarriesAt, CarriesIn, Sending, now, transmits}
use Rattle.group_safety.specs.Transmitting.{newest as newest_sending}
use Rattle.worker_races.specs.merge.Given.{IsPast}
use Rattle.worker_races.specs.merge.Raced.{epoch_at, epoch_of}
use Rattle.worker_races.specs.merge.Worked.{AreAns}
use Rattle.station_words.specs.Telling.{KeepUp, word_of}
use Rattle.worker_races.specs.Reading.{an_under}

-- ---- one association number for each epoch

rise-once : (rs : List (AssociationNumber × ℕ)) → Rise rs → (p q : AssociationNumber × ℕ) → In p rs → In q rs
    → p.1 ≡ q.1 → p.0 ≡ q.0
rise-once [] up p q i j same = absurd i
rise-once (r ∷ rs) up p q (inl a) (inl b) same = ap (λ (x : AssociationNumber × ℕ). x.0) (sym a ∙ b)
rise-once (r ∷ rs) up p q (inl a) (inr j) same =
    absurd (let less = up.0 q j in let at : r.1 ≡ p.1 = ap (λ (x : AssociationNumber × ℕ). x.1) a in omega (arith, less, at, same))
rise-once (r ∷ rs) up p q (inr i) (inl b) same =
    absurd (let less = up.0 p i in let at : r.1 ≡ q.1 = ap (λ (x : AssociationNumber × ℕ). x.1) b in omega (arith, less, at, same))
rise-once (r ∷ rs) up p q (inr i) (inr j) same = rise-once rs up.1 p q i j same

-- points of one epoch have one
abbrev OneEach : List Current → Type 0
OneEach ps = (p q : Current) → In p ps → In q ps → p.present ≡ true → q.present ≡ true → p.epoch ≡ q.epoch
    → p.an ≡ q.an

settled-one : (c : ControlView) → Settled c → OneEach c.points
settled-one c settled p q i j there here same =
    rise-once c.raises settled.rise (p.an, p.epoch) (q.an, q.epoch)
    ((settled.points_low p i).1 there) ((settled.points_low q j).1 here) same

an-first : (ps : List Current) → OneEach ps → (an : AssociationNumber) (e : ℕ) → In (present_at an e) ps
    → an ≡ an_under e ps
an-first [] one an e i = absurd i
an-first (p ∷ ps) one an e i = elim (cases_Bool (p.present && (p.epoch == e))) [
  | inl here ↦ (let parts = and_parts p.present (p.epoch == e) here in
      rw here (one (present_at an e) p i (inl refl) refl parts.0 (sym (eqb-true p.epoch e parts.1))))
  | inr other ↦ rw other (later i other (an-first ps tail an e))
]
  where
    tail : OneEach ps
    tail a b j k = one a b (inr j) (inr k)

    later : In (present_at an e) (p ∷ ps) → (p.present && (p.epoch == e)) ≡ false
        → (In (present_at an e) ps → an ≡ an_under e ps) → an ≡ an_under e ps
    later (inr j) other rest = rest j
    later (inl same) other rest =
        absurd (cc (sym other ∙ and_from p.present (p.epoch == e) (ap (λ (q : Current). q.present) same) (eq-eqb p.epoch e (ap (λ (q : Current). q.epoch) same))))

pub are-ans : (c : ControlView) → Settled c → AreAns (λ e. an_under e c.points) c.points
are-ans c settled an e i = an-first c.points (settled-one c settled) an e i

-- ---- what the current word shows of the key that transmits

pub some-sends : (p : Sending) (an : AssociationNumber) (e : ℕ) → transmits p ≡ Some (an, e)
    → (p.present ≡ true) × (p.an ≡ an) × (p.epoch ≡ e)
some-sends p an e is = go p.present refl is
  where
    go : (b : Bool) → p.present ≡ b → cond {A = Option (AssociationNumber × ℕ)} b (Some (p.an, p.epoch)) None ≡ Some (an, e)
        → (p.present ≡ true) × (p.an ≡ an) × (p.epoch ≡ e)
    go false at is = absurd (cc is)
    go true at is = let both : (p.an, p.epoch) ≡ (an, e) = cc is in
        (at, ap (λ (q : AssociationNumber × ℕ). q.0) both, ap (λ (q : AssociationNumber × ℕ). q.1) both)

pub none-sends : (p : Sending) → transmits p ≡ None → p.present ≡ false
none-sends p is = go p.present is
  where
    go : (b : Bool) → cond {A = Option (AssociationNumber × ℕ)} b (Some (p.an, p.epoch)) None ≡ None → b ≡ false
    go true is = absurd (cc is)
    go false is = refl

-- what is carried shows the key that transmits
pub carried-shows : (settings : Settings) (s : ℕ) (r : Run) (k : Carried) → CarriesAt settings s r k
    → transmits (now k) ≡ option_map (λ (key : Key). (key.an, key.epoch)) (transmitting_at settings s r)
carried-shows settings s r k carries = go (life settings s r) carries
  where
    go : (o : Option Life) → CarriesIn o k
        → transmits (now k) ≡ option_map (λ (key : Key). (key.an, key.epoch)) (option_and_then (λ l. transmitting (keys_in l)) o)
    go None is = ap (λ (c : Carried). transmits (now c)) is
    go (Some l) is = is.shows

newest-word : (ps : List Sending) → newest (map word_of ps) ≡ word_of (newest_sending ps)
newest-word [] = refl
newest-word (p ∷ ps) = refl

module _ (settings : Settings) (s : ℕ) (r : Run) (k : Carried) (c : ControlView) (carries : CarriesAt settings s r k)
    (up : KeepUp (account_at settings s r k) c) where
  pub current-is : current c ≡ word_of (now k)
  current-is = ap newest up.points ∙ newest-word k.points

  -- the key that transmits is present, under its epoch and its association number
  pub shows-key : (key : Key) → transmitting_at settings s r ≡ Some key
      → ((current c).present ≡ true) × ((current c).an ≡ key.an) × ((current c).epoch ≡ key.epoch)
  shows-key key is =
      let sends = some-sends (now k) key.an key.epoch (carried-shows settings s r k carries ∙ ap (option_map (λ (key : Key). (key.an, key.epoch))) is) in (
        ap (λ (q : Current). q.present) current-is ∙ sends.0,
        ap (λ (q : Current). q.an) current-is ∙ sends.1,
        ap (λ (q : Current). q.epoch) current-is ∙ sends.2,
      )

  pub shows-none : transmitting_at settings s r ≡ None → (current c).present ≡ false
  shows-none is =
      ap (λ (q : Current). q.present) current-is
      ∙ none-sends (now k) (carried-shows settings s r k carries ∙ ap (option_map (λ (key : Key). (key.an, key.epoch))) is)

  in-newest : (ps : List Current) → (newest ps).present ≡ true → In (present_at (newest ps).an (newest ps).epoch) ps
  in-newest [] is = absurd (cc is)
  in-newest (p ∷ ps) is = inl (λ i. record { epoch = p.epoch; present = is i; an = p.an })

  pub key-pointed : (key : Key) → transmitting_at settings s r ≡ Some key → In (present_at key.an key.epoch) c.points
  key-pointed key is =
      let shown = shows-key key is in
      subst (λ e. In (present_at key.an e) c.points) shown.2
      (subst (λ an. In (present_at an (current c).epoch) c.points) shown.1 (in-newest c.points shown.0))

  -- the last epoch pointed at is past
  pub is-past : IsPast settings s r (current c).epoch
  is-past l living =
      let is : CarriesIn (Some l) k = subst (λ o. CarriesIn o k) living carries in
      let same : (now k).epoch ≡ (current c).epoch = sym (ap (λ (q : Current). q.epoch) current-is) in
      subst (λ e. (e ≤ l.member.base) ⊎ (has_begun (keys_in l) e ≡ true)) same is.last

  -- and not below the one that transmits
  pub epoch-shown : 0 < epoch_at settings s r → ((current c).present ≡ true) × (epoch_at settings s r ≡ (current c).epoch)
  epoch-shown = go (transmitting_at settings s r) refl
    where
      go : (o : Option Key) → transmitting_at settings s r ≡ o → 0 < epoch_of o
          → ((current c).present ≡ true) × (epoch_of o ≡ (current c).epoch)
      go None is some = absurd (omega (arith, some))
      go (Some key) is some = let shown = shows-key key is in (shown.0, sym shown.2)

  pub epoch-low : epoch_at settings s r ≤ (current c).epoch
  epoch-low = go (transmitting_at settings s r) refl
    where
      go : (o : Option Key) → transmitting_at settings s r ≡ o → epoch_of o ≤ (current c).epoch
      go None is = omega arith
      go (Some key) is = let shown = (shows-key key is).2 in omega (arith, shown)

  -- where none transmits, nothing is present
  pub epoch-none : ((key : Key) → transmitting_at settings s r ≡ Some key → 0 < key.epoch) → epoch_at settings s r ≡ 0
      → (current c).present ≡ false
  epoch-none some = go (transmitting_at settings s r) refl
    where
      go : (o : Option Key) → transmitting_at settings s r ≡ o → epoch_of o ≡ 0 → (current c).present ≡ false
      go None is none = shows-none is
      go (Some key) is none = absurd (let more = some key is in omega (arith, more, none))
