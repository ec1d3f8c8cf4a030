-- A step of control gives all that is asked of one, and told the current word what its move says.
use Rattle.std.proofs.Common.{◌≡◌, ◌≢◌, ◌<◌, ℕ, true, eqb, List, [], ◌∷◌, refl, sym, ap, ◌∙◌, arith}
use Rattle.lan_base.specs.declared.association_number.AssociationNumber.{AssociationNumber}
use Rattle.std.proofs.Common.{Option, Some, None}
use Rattle.std.proofs.lemmas.Bool.{cond-true, cond-false, eq-eqb, ne_eqb}
use Rattle.lan_base.specs.declared.frame.UserFrame.{UserFrame}
use Rattle.sak_exchange.specs.declared.held_key.Key.{Key}
use Rattle.lan_core.specs.declared.settings.Settings.{Settings}
use Rattle.lan_core.specs.Run.{Run, Happening}
use Rattle.lan_core.specs.Lives.{transmitting_at}
use Rattle.lan_core.specs.Order.{is_event_of}
use Rattle.lan_core.specs.Legal.{IsStep, IsStepped, is_replaced}
use Rattle.association_slots.specs.Views.{absent_after, present_at}
use Rattle.worker_races.specs.merge.Raced.{epoch_of, epoch_at}
use Rattle.worker_races.specs.merge.Given.{AreUnder, IsGiven}
use Rattle.worker_races.specs.merge.Words.{told_by}
use Rattle.worker_races.specs.merge.Table.{an_of, words_of, is_gap, move_at, flipped, IsTold}
use Rattle.worker_races.specs.merge.Table as told
use Rattle.worker_races.proofs.weaving.FromRun.{positive}
use Rattle.worker_races.proofs.weaving.EventTold.{event-told}
use Rattle.worker_races.proofs.weaving.Replaced.{replaced-by}

module _ (settings : Settings) (users : List UserFrame) (s top : ℕ) (r : Run) (x : Happening) (stepped : IsStepped settings users r)
    (step : IsStep settings users x r) (own : is_event_of s x.event ≡ true) where
  Gap : Type 0
  Gap = (0 < epoch_at settings s r) × (0 < epoch_at settings s (x ∷ r)) × (epoch_at settings s (x ∷ r) ≢ epoch_at settings s r)
      × ((k : Key) → transmitting_at settings s r ≡ Some k → is_replaced s k x.facts ≡ true)

  gap-of : IsTold top (transmitting_at settings s r) (transmitting_at settings s (x ∷ r)) (words_of s top (an_of (transmitting_at settings s r)) x.facts)
      → is_gap (words_of s top (an_of (transmitting_at settings s r)) x.facts) ≡ true → Gap
  unfolding Gap
  gap-of (told.stays same words) gap = absurd (let no = ap is_gap words in cc (no, gap))
  gap-of (told.ends k before after words) gap = absurd (let no = ap is_gap words in cc (no, gap))
  gap-of (told.begins b after later words) gap = absurd (let no = ap is_gap words in cc (no, gap))
  gap-of (told.changes k b before after less words) gap =
      let one = ap epoch_of before in
      let two = ap epoch_of after in
      let low = positive settings users s r k stepped before in (
        omega (arith, one, low),
        omega (arith, two, less),
        λ same. omega (arith, one, two, less, same),
        λ j sends. replaced-by settings s r x j sends users top top b.an b.epoch stepped step own words,
      )

  -- it gives what is asked
  pub given-at : IsGiven settings users r (move_at settings s top r x)
  unfolding Gap
  given-at = record {
    step = step;
    own = own;
    shown = refl;
    before = refl;
    after = refl;
    gap = gap-of (event-told settings s r x top users stepped step own);
  }

  -- what it told the word
  pub told-at : (ans : ℕ → ℕ → AssociationNumber) → AreUnder settings ans (x ∷ r)
      → IsTold top (transmitting_at settings s r) (transmitting_at settings s (x ∷ r)) (words_of s top (an_of (transmitting_at settings s r)) x.facts)
      → told_by (ans s) top (move_at settings s top r x) ≡ flipped (words_of s top (an_of (transmitting_at settings s r)) x.facts)
  told-at ans under (told.stays same words) =
      let e : epoch_at settings s (x ∷ r) ≡ epoch_at settings s r = ap epoch_of same in
      rw words (cond-true (eqb (epoch_at settings s (x ∷ r)) (epoch_at settings s r)) _ _ (eq-eqb _ _ e))
  told-at ans under (told.ends k before after words) =
      let one = ap epoch_of before in
      let two = ap epoch_of after in
      let low = positive settings users s r k stepped before in
      rw words (cond-false (eqb (epoch_at settings s (x ∷ r)) (epoch_at settings s r)) _ _ (ne_eqb _ _ (λ e. omega (arith, one, two, low, e)))
      ∙ cond-true (eqb (epoch_at settings s (x ∷ r)) 0) _ _ (eq-eqb _ _ two))
  told-at ans under (told.begins b after later words) =
      let two = ap epoch_of after in
      let low = positive settings users s (x ∷ r) b (step, stepped) after in
      let an = under s b after in
      rw words (cond-false (eqb (epoch_at settings s (x ∷ r)) (epoch_at settings s r)) _ _ (ne_eqb _ _ (λ e. differs b two low later e (transmitting_at settings s r) refl))
      ∙ (cond-false (eqb (epoch_at settings s (x ∷ r)) 0) _ _ (ne_eqb _ _ (λ e. omega (arith, two, low, e)))
      ∙ ap (λ w. w ∷ []) (ap (λ e. present_at (ans s e) e) two ∙ ap (λ n. present_at n b.epoch) (sym an))))
    where
      differs : (b : Key) → epoch_at settings s (x ∷ r) ≡ b.epoch → 0 < b.epoch → ((k : Key) → transmitting_at settings s r ≡ Some k → k.epoch < b.epoch)
          → epoch_at settings s (x ∷ r) ≡ epoch_at settings s r → (o : Option Key) → transmitting_at settings s r ≡ o → ⊥
      differs b two low later e None is = let one = ap epoch_of is in omega (arith, one, two, low, e)
      differs b two low later e (Some k) is = let one = ap epoch_of is in let less = later k is in omega (arith, one, two, less, e)
  told-at ans under (told.changes k b before after less words) =
      let two = ap epoch_of after in
      let an = under s b after in
      rw words (ap (λ w. w ∷ absent_after top ∷ []) (ap (λ e. present_at (ans s e) e) two ∙ ap (λ n. present_at n b.epoch) (sym an)))
