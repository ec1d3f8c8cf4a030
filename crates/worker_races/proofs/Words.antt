-- What control performed, with the association numbers under which the words were told its epochs.
use Rattle.std.proofs.Common.{◌≡◌, ◌<◌, ◌≤◌, ℕ, ◌==◌, true, cond, List, [], ◌∷◌, ◌++◌, map, length}
use Rattle.std.proofs.Common.{Option, Some, None, refl, sym, ap, ◌∙◌, subst, arith, inl, inr, append-nil}
use Rattle.std.proofs.lemmas.Bool.{cases_Bool, cases_lt, eqb-true}
use Rattle.std.specs.Prelude.{option_and_then}
use Rattle.lan_base.specs.declared.association_number.AssociationNumber.{AssociationNumber}
use Rattle.lan_base.specs.declared.frame.UserFrame.{UserFrame}
use Rattle.association_slots.specs.Views.{In, present_at}
use Rattle.association_slots.specs.declared.view.Current.{Current}
use Rattle.association_slots.proofs.Public.{in_left, in_right}
use Rattle.sak_exchange.specs.declared.held_key.Key.{Key}
use Rattle.sak_exchange.specs.Held.{transmitting}
use Rattle.lan_core.specs.declared.settings.Settings.{Settings}
use Rattle.lan_core.specs.Run.{Run, Happening, stations}
use Rattle.lan_core.specs.Lives.{keys_in, transmitting_at}
use Rattle.lan_core.specs.Legal.{IsStep, IsStepped}
use Rattle.lan_core.specs.Order.{is_event_of}
use Rattle.lan_core.proofs.Public.{others-change-none}
use Rattle.worker_races.specs.declared.merge.step.Step.{Step}
use Rattle.worker_races.specs.merge.Given.{AreUnder}
use Rattle.worker_races.specs.merge.Given.{ArePerformed as AreGivenFor}
use Rattle.worker_races.specs.merge.Places.{last_of}
use Rattle.worker_races.specs.merge.Steps.{AreSteps}
use Rattle.worker_races.specs.merge.Table.{Controls, IsTold, an_of, flipped, move_at, moves_at, with_top, words_in, words_of}
use Rattle.worker_races.specs.merge.Table as table
use Rattle.worker_races.specs.merge.Worked.{AreAns}
use Rattle.worker_races.proofs.weaving.EventTold.{event-told}
use Rattle.worker_races.proofs.weaving.NoStation.{none-there}
use Rattle.worker_races.proofs.weaving.Agree.{own-of, starts-none}
use Rattle.worker_races.specs.Performed.{ArePerformed, happenings, run_after}

-- ---- one event

pub same-places : (t : ℕ) (x : Happening) (r : Run) → is_event_of t x.event ≡ true → stations (x ∷ r) ≡ stations r
unfolding stations
same-places t x r own = rw (starts-none t x.event own) (append-nil (stations r))

-- a key that transmits after an event of its station transmitted before, or was pointed at
data Sent (before : Option Key) (k : Key) (words : List Current) : Type 0 where
  stays : before ≡ Some k → Sent before k words
  pointed : In (present_at k.an k.epoch) (flipped words) → Sent before k words

sent : (top : ℕ) (before after : Option Key) (words : List Current) (k : Key) → after ≡ Some k
    → IsTold top before after words → Sent before k words
sent top before after words k is (table.stays same none) = stays (sym same ∙ is)
sent top before after words k is (table.ends b was none told) = absurd (cc (sym none ∙ is))
sent top before after words k is (table.begins b sends later told) =
    let same : b ≡ k = cc (sym sends ∙ is) in
    pointed (subst (λ ws. In (present_at k.an k.epoch) (flipped ws)) (sym told) (inl (ap (λ (w : Key). present_at w.an w.epoch) same)))
sent top before after words k is (table.changes old b was sends later told) =
    let same : b ≡ k = cc (sym sends ∙ is) in
    pointed (subst (λ ws. In (present_at k.an k.epoch) (flipped ws)) (sym told) (inl (ap (λ (w : Key). present_at w.an w.epoch) same)))

-- what the rest of the events tell was told
abbrev pub AreToldOf : Settings → (ℕ → List Current) → ℕ → (ℕ → ℕ) → Run → Controls → Type 0
AreToldOf settings points many tops r xs = (s : ℕ) → s < many → (p : Current) → In p (words_in settings s (tops s) r xs) → In p (points s)

module _ (settings : Settings) (users : List UserFrame) (ans : ℕ → ℕ → AssociationNumber) (points : ℕ → List Current)
    (many : ℕ) (are : (s : ℕ) → s < many → AreAns (ans s) (points s)) where
  under-next : (tops : ℕ → ℕ) (r : Run) (t : ℕ) (x : Happening) (xs : Controls) → many ≡ length (stations r)
      → IsStepped settings users r → IsStep settings users x r → is_event_of t x.event ≡ true
      → AreToldOf settings points many tops r ((t, x) ∷ xs) → AreUnder settings ans r → AreUnder settings ans (x ∷ r)
  under-next tops r t x xs many_is stepped step own told under s k is = elim (cases_lt s many) [
    | inr past ↦ absurd (cc (sym is ∙ none-sends s (x ∷ r) (step, stepped) (let same = ap length (same-places t x r own) in omega (arith, past, many_is, same))))
    | inl there ↦ elim (cases_Bool (t == s)) [
      | inr other ↦ under s k (sym (ap (option_and_then (λ l. transmitting (keys_in l)))
          (others-change-none settings s x r (subst (λ n. s < n) many_is there) (own-of s t x.event own ∙ other))) ∙ is)
      | inl same ↦ mine there same (eqb-true t s same)
    ]
  ]
    where
      none-sends : (s : ℕ) (r : Run) → IsStepped settings users r → length (stations r) ≤ s → transmitting_at settings s r ≡ None
      none-sends s r stepped past = ap (option_and_then (λ l. transmitting (keys_in l))) (none-there settings users s r stepped past)

      mine : s < many → (t == s) ≡ true → t ≡ s → k.an ≡ ans s k.epoch
      mine there same at =
          let own_s : is_event_of s x.event ≡ true = subst (λ n. is_event_of n x.event ≡ true) at own in
          let told_s = event-told settings s r x (tops s) users stepped step own_s in
          elim (sent (tops s) (transmitting_at settings s r) (transmitting_at settings s (x ∷ r)) _ k is told_s) [
            | stays was ↦ under s k was
            | pointed i ↦ are s there k.an k.epoch (told s there (present_at k.an k.epoch)
                (subst (λ b. In (present_at k.an k.epoch) (cond b
                (words_in settings s (last_of (tops s) (move_at settings s (tops s) r x)) (x ∷ r) xs
                ++ flipped (words_of s (tops s) (an_of (transmitting_at settings s r)) x.facts))
                (words_in settings s (tops s) (x ∷ r) xs))) (sym same)
                (in_right _ (words_in settings s (last_of (tops s) (move_at settings s (tops s) r x)) (x ∷ r) xs) _ i)))
          ]

  told-next : (tops : ℕ → ℕ) (r : Run) (t : ℕ) (x : Happening) (xs : Controls)
      → AreToldOf settings points many tops r ((t, x) ∷ xs)
      → AreToldOf settings points many (with_top t (last_of (tops t) (move_at settings t (tops t) r x)) tops) (x ∷ r) xs
  told-next tops r t x xs told s there p i = told s there p (elim (cases_Bool (t == s)) [
    | inl same ↦ (let at = eqb-true t s same in
        let top : with_top t (last_of (tops t) (move_at settings t (tops t) r x)) tops s ≡ last_of (tops s) (move_at settings s (tops s) r x) =
        rw same (ap (λ v. last_of (tops v) (move_at settings v (tops v) r x)) at) in
        rw same (in_left p (words_in settings s (last_of (tops s) (move_at settings s (tops s) r x)) (x ∷ r) xs) _
        (subst (λ n. In p (words_in settings s n (x ∷ r) xs)) top i)))
    | inr other ↦ (let top : with_top t (last_of (tops t) (move_at settings t (tops t) r x)) tops s ≡ tops s = rw other refl in
        rw other (subst (λ n. In p (words_in settings s n (x ∷ r) xs)) top i))
  ])

  pub given-for : (tops : ℕ → ℕ) (r : Run) (xs : Controls) (steps : List Step) → many ≡ length (stations r)
      → IsStepped settings users r → ArePerformed settings users r xs steps → AreToldOf settings points many tops r xs
      → AreUnder settings ans r → AreGivenFor settings users ans r xs
  given-for tops r [] steps many_is stepped performed told under = tt
  given-for tops r ((t, x) ∷ xs) [] many_is stepped performed told under = absurd performed
  given-for tops r ((t, x) ∷ xs) (kept ∷ steps) many_is stepped performed told under =
      let step = performed.0.step in let own = performed.0.own in
      let then = under-next tops r t x xs many_is stepped step own told under in (
        step,
        own,
        then,
        given-for (with_top t (last_of (tops t) (move_at settings t (tops t) r x)) tops) (x ∷ r) xs steps
            (many_is ∙ sym (ap length (same-places t x r own))) (step, stepped) performed.1 (told-next tops r t x xs told) then,
      )

-- ---- all events

pub performed-stepped : (settings : Settings) (users : List UserFrame) (r : Run) (xs : Controls) (steps : List Step)
    → IsStepped settings users r → ArePerformed settings users r xs steps → IsStepped settings users (run_after xs r)
performed-stepped settings users r [] steps stepped performed = stepped
performed-stepped settings users r ((t, x) ∷ xs) [] stepped performed = absurd performed
performed-stepped settings users r ((t, x) ∷ xs) (kept ∷ steps) stepped performed =
    performed-stepped settings users (x ∷ r) xs steps (performed.0.step, stepped) performed.1

pub performed-places : (settings : Settings) (users : List UserFrame) (r : Run) (xs : Controls) (steps : List Step)
    → ArePerformed settings users r xs steps → stations (run_after xs r) ≡ stations r
performed-places settings users r [] steps performed = refl
performed-places settings users r ((t, x) ∷ xs) [] performed = absurd performed
performed-places settings users r ((t, x) ∷ xs) (kept ∷ steps) performed =
    performed-places settings users (x ∷ r) xs steps performed.1 ∙ same-places t x r performed.0.own

pub performed-steps : (settings : Settings) (users : List UserFrame) (tops : ℕ → ℕ) (r : Run) (xs : Controls) (steps : List Step)
    → ArePerformed settings users r xs steps → AreSteps steps (moves_at settings tops r xs)
performed-steps settings users tops r [] [] performed = tt
performed-steps settings users tops r [] (kept ∷ steps) performed = absurd performed
performed-steps settings users tops r ((t, x) ∷ xs) [] performed = absurd performed
performed-steps settings users tops r ((t, x) ∷ xs) (kept ∷ steps) performed = (
  record { event = sym performed.0.event; before = sym performed.0.before; after = sym performed.0.after },
  performed-steps settings users (with_top t (last_of (tops t) (move_at settings t (tops t) r x)) tops) (x ∷ r) xs steps performed.1,
)

pub moves-happen : (settings : Settings) (tops : ℕ → ℕ) (r : Run) (xs : Controls)
    → map (λ m. m.x) (moves_at settings tops r xs) ≡ happenings xs
moves-happen settings tops r [] = refl
moves-happen settings tops r ((t, x) ∷ xs) =
    ap (λ hs. x ∷ hs) (moves-happen settings (with_top t (last_of (tops t) (move_at settings t (tops t) r x)) tops) (x ∷ r) xs)
