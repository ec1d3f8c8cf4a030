-- What the words show, by the rule.
use Rattle.std.proofs.Common.{◌≡◌, ◌≤◌, ℕ, true, List, get_or, sym, ap, ◌∙◌, subst, arith}
use Rattle.lan_base.specs.declared.association_number.AssociationNumber.{AssociationNumber}
use Rattle.lan_base.specs.AssociationNumbers.{number_of}
use Rattle.association_slots.specs.Rule.{IsAsLeft}
use Rattle.association_slots.specs.Words.{epoch_of, next_of}
use Rattle.association_slots.specs.Views.{current, newest, slot, AllIn, IsOpen, told_sum}
use Rattle.association_slots.specs.Steps.{above_claims, least_next}
use Rattle.association_slots.specs.declared.view.Current.{Current}
use Rattle.association_slots.specs.declared.view.ControlView.{ControlView}
use Rattle.group_safety.specs.Transmitting.{now}
use Rattle.group_safety.specs.Accounts.{Account}
use Rattle.station_words.specs.Telling.{KeepUp, Tells, word_of}
use Rattle.station_words.specs.Shown.{Show, ShowAtLeast}
use Rattle.station_words.proofs.KeepingUp.{newest-word}

module _ (c : ControlView) (ws : List ℕ) (a : Account) (left : IsAsLeft c ws) (t : Tells a c)
    (counted : (an : AssociationNumber) (epoch : ℕ) → IsOpen c an epoch → AllIn c
    → next_of (get_or ws (number_of an) 0) ≡ told_sum c an epoch) where
  now-is : current c ≡ word_of (now a.carried)
  now-is = ap newest t.keep_up.points ∙ newest-word a.carried.points

  shows : (current c).present ≡ true → (epoch_of (get_or ws (number_of (current c).an) 0) ≡ (current c).epoch) × (next_of (get_or ws (number_of (current c).an) 0) ≡ a.nexts (current c).epoch)
  shows is =
      let o = t.keep_up.open_now is in (
        left.epochs (current c).an ∙ o.1,
        counted (current c).an (current c).epoch o t.all_in ∙ t.next is,
      )

  pub shows-all : Show a ws
  shows-all = record {
    current = left.shows ∙ now-is;
    shut = λ an. left.shuts an ∙ t.keep_up.slots an;
    opens = subst (λ (p : Current). p.present ≡ true → (epoch_of (get_or ws (number_of p.an) 0) ≡ p.epoch) × (next_of (get_or ws (number_of p.an) 0) ≡ a.nexts p.epoch)) now-is shows;
  }

-- where the words keep up with the account, the number that is shown may be ahead of the next one
module _ (c : ControlView) (ws : List ℕ) (a : Account) (left : IsAsLeft c ws) (t : KeepUp a c)
    (counted : (an : AssociationNumber) (epoch : ℕ) → IsOpen c an epoch
    → (least_next c an).next ≤ next_of (get_or ws (number_of an) 0)) where
  now-word : current c ≡ word_of (now a.carried)
  now-word = ap newest t.points ∙ newest-word a.carried.points

  shows-least : (current c).present ≡ true → (epoch_of (get_or ws (number_of (current c).an) 0) ≡ (current c).epoch) × (a.nexts (current c).epoch ≤ next_of (get_or ws (number_of (current c).an) 0))
  shows-least is =
      let o = t.open_now is in
      let low = (t.least is).1 in
      let same : above_claims (current c).epoch c.told ≡ above_claims (slot c (current c).an).epoch c.told = ap (λ (e : ℕ). above_claims e c.told) (sym o.1) in
      let high = counted (current c).an (current c).epoch o in (
        left.epochs (current c).an ∙ o.1,
        omega (arith, low, same, high),
      )

  pub shows-at-least : ShowAtLeast a ws
  shows-at-least = record {
    current = left.shows ∙ now-word;
    shut = λ an. left.shuts an ∙ t.slots an;
    opens = subst (λ (p : Current). p.present ≡ true → (epoch_of (get_or ws (number_of p.an) 0) ≡ p.epoch) × (a.nexts p.epoch ≤ next_of (get_or ws (number_of p.an) 0))) now-word shows-least;
  }
