-- What control gives of a race is all that a race asks of control.
use Rattle.std.proofs.Common.{◌≡◌, ◌<◌, ◌≤◌, ℕ, true, false, List, [], ◌∷◌, length, refl, sym, ap, ◌∙◌, subst, arith, inl, inr, append-nil}
use Rattle.lan_base.specs.declared.association_number.AssociationNumber.{AssociationNumber}
use Rattle.std.proofs.Common.{Option, Some, None}
use Rattle.std.proofs.lemmas.Bool.{cases_lt, cases_eq, cases_Bool, eqb-true, ne_eqb}
use Rattle.lan_base.specs.declared.frame.UserFrame.{UserFrame}
use Rattle.sak_exchange.specs.declared.held_key.Key.{Key}
use Rattle.lan_core.specs.declared.settings.Settings.{Settings}
use Rattle.lan_core.specs.Run.{Run, Happening, stations}
use Rattle.lan_core.specs.Lives.{life, transmitting_at}
use Rattle.lan_core.specs.declared.event.Event.{Event}
use Rattle.lan_core.specs.declared.event.Event.TheVariants as events
use Rattle.lan_core.specs.Order.{Exists, IsAllowed, is_event_of}
use Rattle.lan_core.specs.Legal.{IsStepped}
use Rattle.lan_core.proofs.Public.{others-change-none}
use Rattle.worker_races.specs.merge.Places.{Move, Standing, Follows, Moves, last_of}
use Rattle.worker_races.specs.merge.Raced.{epoch_of, epoch_at, standing_at, AreMoves}
use Rattle.worker_races.specs.merge.Given.{IsPast, IsGiven, AreGiven}
use Rattle.worker_races.proofs.weaving.PlaceLemmas.{last_of-cases}
use Rattle.worker_races.proofs.weaving.Agree.{own-of, starts-none}
use Rattle.worker_races.proofs.weaving.FromRun.{goes, positive}
use Rattle.worker_races.proofs.weaving.FromRun as from

module _ (settings : Settings) (users : List UserFrame) (ans : ℕ → ℕ → AssociationNumber) where
  own-there : (c : Run) (m : Move) → IsGiven settings users c m → Exists m.station c
  own-there c m given = go m.x.event given.own given.step.in_order.1
    where
      go : (f : Event) → is_event_of m.station f ≡ true → IsAllowed settings users c m.x f → Exists m.station c
      go (events.Start name sci priority) own allowed = absurd (cc own)
      go (events.Tick t n) own allowed = subst (λ v. Exists v c) (eqb-true t m.station own) allowed.0
      go (events.Deliver frame t) own allowed = subst (λ v. Exists v c) (eqb-true t m.station own) allowed.0
      go (events.Restart t) own allowed = subst (λ v. Exists v c) (eqb-true t m.station own) allowed.0
      go (events.Claim station user pn) own allowed = absurd (cc own)
      go events.Emit own allowed = absurd (cc own)
      go (events.Inject t octets) own allowed = subst (λ v. Exists v c) (eqb-true t m.station own) allowed.0

  -- a step of another station leaves the epoch of one
  pub epoch-of-other : (c : Run) (m : Move) (s : ℕ) → IsGiven settings users c m → Exists s c → (m.station ≡ s → ⊥)
      → life settings s (m.x ∷ c) ≡ life settings s c
  epoch-of-other c m s given there other =
      others-change-none settings s m.x c there (own-of s m.station m.x.event given.own ∙ ne_eqb m.station s other)

  same-places : (c : Run) (m : Move) → IsGiven settings users c m → stations (m.x ∷ c) ≡ stations c
  unfolding stations
  same-places c m given = rw (starts-none m.station m.x.event given.own) (append-nil (stations c))

  -- ---- each step

  one-same : (c : Run) (m : Move) → IsStepped settings users c → IsGiven settings users c m
      → m.after ≡ m.before → transmitting_at settings m.station (m.x ∷ c) ≡ transmitting_at settings m.station c
  one-same c m stepped given same =
      elim (goes settings users m.station 0 c m.x stepped given.step given.own (own-there c m given) (λ l is. inl (omega arith))) [
        | from.keeps stay past ↦ stay
        | from.ends none past ↦ none ∙ sym (was-none (transmitting_at settings m.station c) refl none)
        | from.begins b sends low later past ↦ absurd (begun b sends low later (transmitting_at settings m.station c) refl)
      ]
    where
      was-none : (o : Option Key) → transmitting_at settings m.station c ≡ o → transmitting_at settings m.station (m.x ∷ c) ≡ None
          → transmitting_at settings m.station c ≡ None
      was-none None is none = is
      was-none (Some k) is none =
          let some = positive settings users m.station c k stepped is in
          let a = given.after ∙ ap epoch_of none in let b = given.before ∙ ap epoch_of is in
          absurd (omega (arith, some, a, b, same))

      begun : (b : Key) → transmitting_at settings m.station (m.x ∷ c) ≡ Some b → 0 < b.epoch
          → ((k : Key) → transmitting_at settings m.station c ≡ Some k → k.epoch < b.epoch)
          → (o : Option Key) → transmitting_at settings m.station c ≡ o → ⊥
      begun b sends low later None is =
          let x = given.after ∙ ap epoch_of sends in let y = given.before ∙ ap epoch_of is in omega (arith, low, x, y, same)
      begun b sends low later (Some k) is =
          let x = given.after ∙ ap epoch_of sends in let y = given.before ∙ ap epoch_of is in
          let less = later k is in omega (arith, less, x, y, same)

  pub moves-given : (c : Run) (ms : List Move) → IsStepped settings users c
      → AreGiven settings users ans c ms → AreMoves settings users ans c ms
  moves-given c [] stepped given = tt
  moves-given c (m ∷ ms) stepped given = (
    record {
      step = given.0.step;
      own = given.0.own;
      shown = given.0.shown;
      before = given.0.before;
      after = given.0.after;
      same = one-same c m stepped given.0;
      gap = λ gap. (given.0.gap gap).3;
    },
    λ s k is. (positive settings users s (m.x ∷ c) k (given.0.step, stepped) is, given.1 s k is),
    moves-given (m.x ∷ c) ms (given.0.step, stepped) given.2,
  )

  -- ---- the steps of one station

  last-low : (p : ℕ) (m : Move) → m.after ≤ p → last_of p m ≡ p
  last-low p m low = elim (last_of-cases p m) [ inl c ↦ absurd (let l = c.0 in omega (arith, low, l)) | inr c ↦ c.1 ]

  last-high : (p : ℕ) (m : Move) → p < m.after → last_of p m ≡ m.after
  last-high p m high = elim (last_of-cases p m) [ inl c ↦ c.1 | inr c ↦ absurd (let l = c.0 in omega (arith, high, l)) ]

  record Next (c : Run) (m : Move) (p : ℕ) : Type 0 where
    moves : Moves (standing_at settings m.station p c) m
    past : IsPast settings m.station (m.x ∷ c) (last_of p m)
    low : m.after ≤ last_of p m

  next-of : (c : Run) (m : Move) (p : ℕ) → IsStepped settings users c → IsGiven settings users c m
      → IsPast settings m.station c p → epoch_at settings m.station c ≤ p → Next c m p
  next-of c m p stepped given past low =
      elim (goes settings users m.station p c m.x stepped given.step given.own (own-there c m given) past) [
        | from.keeps stay then ↦ (let same : m.after ≡ m.before = given.after ∙ (ap epoch_of stay ∙ sym given.before) in
            let last = last-low p m (let b = given.before in omega (arith, same, b, low)) in
            record {
              moves = inl (same ∙ given.before, no-gap (λ g. (given.gap g).2 same));
              past = subst (IsPast settings m.station (m.x ∷ c)) (sym last) then;
              low = (let b = given.before in omega (arith, same, b, low, last));
            })
        | from.ends none then ↦ (let gone : m.after ≡ 0 = given.after ∙ ap epoch_of none in
            let last = last-low p m (omega (arith, gone)) in
            record {
              moves = inr (inl (gone, no-gap (λ g. (let some = (given.gap g).1 in omega (arith, some, gone)))));
              past = subst (IsPast settings m.station (m.x ∷ c)) (sym last) then;
              low = omega (arith, gone);
            })
        | from.begins b sends high later then ↦ (let is : m.after ≡ b.epoch = given.after ∙ ap epoch_of sends in
            let up : p < m.after = omega (arith, is, high) in
            let last = last-high p m up in
            record {
              moves = inr (inr (up, λ g. subst (λ t. 0 < t) given.before (given.gap g).0));
              past = subst (IsPast settings m.station (m.x ∷ c)) (sym (last ∙ is)) then;
              low = omega (arith, last);
            })
      ]
    where
      no-gap : (m.gap ≡ true → ⊥) → m.gap ≡ false
      no-gap never = elim (cases_Bool m.gap) [ inl g ↦ absurd (never g) | inr g ↦ g ]

  past-same : (s p : ℕ) (c : Run) (x : Happening) → life settings s (x ∷ c) ≡ life settings s c → IsPast settings s c p → IsPast settings s (x ∷ c) p
  past-same s p c x same past l is = past l (sym same ∙ is)

  pub follows-given : (s p : ℕ) (c : Run) (ms : List Move) → IsStepped settings users c
      → AreGiven settings users ans c ms → Exists s c → IsPast settings s c p → epoch_at settings s c ≤ p
      → Follows s (standing_at settings s p c) ms
  follows-given s p c [] stepped given there past low = tt
  follows-given s p c (m ∷ ms) stepped given there past low = elim (cases_eq m.station s) [
    | inl own ↦ (let at = subst (λ v. IsPast settings v c p) (sym own) past in
        let low' = subst (λ v. epoch_at settings v c ≤ p) (sym own) low in
        let next = next-of c m p stepped given.0 at low' in
        let here : m.before ≡ epoch_at settings s c = given.0.before ∙ ap (λ v. epoch_at settings v c) own in
        let then : m.after ≡ epoch_at settings s (m.x ∷ c) = given.0.after ∙ ap (λ v. epoch_at settings v (m.x ∷ c)) own in
        inl (
          own,
          here,
          subst (λ v. Moves (standing_at settings v p c) m) own next.moves,
          subst (λ t. Follows s (record { transmitting = t; pointed = last_of p m }) ms) (sym then)
              (follows-given s (last_of p m) (m.x ∷ c) ms (given.0.step, stepped) given.2
              (subst (λ ps. s < length ps) (sym (same-places c m given.0)) there)
              (subst (λ v. IsPast settings v (m.x ∷ c) (last_of p m)) own next.past)
              (subst (λ t. t ≤ last_of p m) then next.low)),
        ))
    | inr other ↦ (let same = epoch-of-other c m s given.0 there other in
        let epoch : epoch_at settings s (m.x ∷ c) ≡ epoch_at settings s c = rw same refl in
        inr (
          other,
          subst (λ t. Follows s (record { transmitting = t; pointed = p }) ms) epoch
              (follows-given s p (m.x ∷ c) ms (given.0.step, stepped) given.2
              (subst (λ ps. s < length ps) (sym (same-places c m given.0)) there)
              (past-same s p c m.x same past) (subst (λ t. t ≤ p) (sym epoch) low)),
        ))
  ]

  -- no step is one of a station that is not there
  follows-none : (s : ℕ) (now : Standing) (c : Run) (ms : List Move) → AreGiven settings users ans c ms → (Exists s c → ⊥) → Follows s now ms
  follows-none s now c [] given none = tt
  follows-none s now c (m ∷ ms) given none = inr (
    λ own. none (subst (λ v. Exists v c) own (own-there c m given.0)),
    follows-none s now (m.x ∷ c) ms given.2 (λ there. none (subst (λ ps. s < length ps) (same-places c m given.0) there)),
  )

  -- the steps of a station, whether it is there or not
  pub follows-all : (s p : ℕ) (c : Run) (ms : List Move) → IsStepped settings users c
      → AreGiven settings users ans c ms → IsPast settings s c p → epoch_at settings s c ≤ p
      → Follows s (standing_at settings s p c) ms
  follows-all s p c ms stepped given past low = elim (cases_lt s (length (stations c))) [
    | inl there ↦ follows-given s p c ms stepped given there past low
    | inr not ↦ follows-none s (standing_at settings s p c) c ms given (λ there. omega (arith, there, not))
  ]
