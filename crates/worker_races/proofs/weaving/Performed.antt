-- What control performed gives all that a race asks of control, and told each current word what the
-- moves say.
use Rattle.std.proofs.Common.{◌≡◌, ℕ, true, eqb, List, [], ◌∷◌, ◌++◌, refl, ap, ◌∙◌, subst, inl, inr}
use Rattle.lan_base.specs.declared.association_number.AssociationNumber.{AssociationNumber}
use Rattle.std.proofs.lemmas.Bool.{cases_Bool, eqb-true}
use Rattle.lan_base.specs.declared.frame.UserFrame.{UserFrame}
use Rattle.lan_core.specs.declared.settings.Settings.{Settings}
use Rattle.lan_core.specs.Run.{Run}
use Rattle.lan_core.specs.Lives.{transmitting_at}
use Rattle.lan_core.specs.Legal.{IsStepped}
use Rattle.worker_races.specs.merge.Places.{last_of}
use Rattle.worker_races.specs.merge.Given.{AreGiven, ArePerformed}
use Rattle.worker_races.specs.merge.Words.{told_by, told_in}
use Rattle.worker_races.specs.merge.Table.{Controls, an_of, flipped, move_at, moves_at, with_top, words_in, words_of}
use Rattle.worker_races.proofs.weaving.EventTold.{event-told}
use Rattle.worker_races.proofs.weaving.MoveAt.{given-at, told-at}

module _ (settings : Settings) (users : List UserFrame) (ans : ℕ → ℕ → AssociationNumber) where
  pub all-given : (tops : ℕ → ℕ) (r : Run) (xs : Controls) → IsStepped settings users r → ArePerformed settings users ans r xs
      → AreGiven settings users ans r (moves_at settings tops r xs)
  all-given tops r [] stepped all = tt
  all-given tops r ((s, x) ∷ xs) stepped all = (
    given-at settings users s (tops s) r x stepped all.0 all.1,
    all.2,
    all-given (with_top s (last_of (tops s) (move_at settings s (tops s) r x)) tops) (x ∷ r) xs (all.0, stepped) all.3,
  )

  pub all-told : (s : ℕ) (tops : ℕ → ℕ) (r : Run) (xs : Controls) → IsStepped settings users r → ArePerformed settings users ans r xs
      → told_in (ans s) s (tops s) (moves_at settings tops r xs) ≡ words_in settings s (tops s) r xs
  unfolding told_in
  all-told s tops r [] stepped all = refl
  all-told s tops r ((t, x) ∷ xs) stepped all = elim (cases_Bool (eqb t s)) [
    | inl own ↦ (let same : t ≡ s = eqb-true t s own in mine same own (all-told s (with_top t (last_of (tops t) (move_at settings t (tops t) r x)) tops) (x ∷ r) xs (all.0, stepped) all.3))
    | inr other ↦ (let rest = all-told s (with_top t (last_of (tops t) (move_at settings t (tops t) r x)) tops) (x ∷ r) xs (all.0, stepped) all.3 in
        let top : with_top t (last_of (tops t) (move_at settings t (tops t) r x)) tops s ≡ tops s = rw other refl in
        rw other (subst (λ n. told_in (ans s) s n (moves_at settings (with_top t (last_of (tops t) (move_at settings t (tops t) r x)) tops) (x ∷ r) xs)
        ≡ words_in settings s n (x ∷ r) xs) top rest))
  ]
    where
      mine : t ≡ s → eqb t s ≡ true
          → told_in (ans s) s (with_top t (last_of (tops t) (move_at settings t (tops t) r x)) tops s) (moves_at settings (with_top t (last_of (tops t) (move_at settings t (tops t) r x)) tops) (x ∷ r) xs)
          ≡ words_in settings s (with_top t (last_of (tops t) (move_at settings t (tops t) r x)) tops s) (x ∷ r) xs
          → told_in (ans s) s (tops s) (moves_at settings tops r ((t, x) ∷ xs)) ≡ words_in settings s (tops s) r ((t, x) ∷ xs)
      mine same own rest =
          let step = subst (λ v. told_by (ans v) (tops v) (move_at settings v (tops v) r x)
          ≡ flipped (words_of v (tops v) (an_of (transmitting_at settings v r)) x.facts)) same
          (told-at settings users t (tops t) r x stepped all.0 all.1 ans all.2 (event-told settings t r x (tops t) users stepped all.0 all.1)) in
          let top : with_top t (last_of (tops t) (move_at settings t (tops t) r x)) tops s ≡ last_of (tops s) (move_at settings s (tops s) r x) =
          rw own (ap (λ v. last_of (tops v) (move_at settings v (tops v) r x)) same) in
          let here : told_by (ans s) (tops s) (move_at settings t (tops t) r x) ≡ flipped (words_of s (tops s) (an_of (transmitting_at settings s r)) x.facts) =
          ap (λ v. told_by (ans s) (tops s) (move_at settings v (tops v) r x)) same ∙ step in
          let rest2 = subst (λ n. told_in (ans s) s n (moves_at settings (with_top t (last_of (tops t) (move_at settings t (tops t) r x)) tops) (x ∷ r) xs)
          ≡ words_in settings s n (x ∷ r) xs) top rest in
          let last : last_of (tops s) (move_at settings t (tops t) r x) ≡ last_of (tops s) (move_at settings s (tops s) r x) =
          ap (λ v. last_of (tops s) (move_at settings v (tops v) r x)) same in
          rw own (rw (last, here) (ap (λ ws. ws ++ flipped (words_of s (tops s) (an_of (transmitting_at settings s r)) x.facts)) rest2))
