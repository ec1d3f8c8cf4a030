-- What a seat knows only grows as it claims, and so the entries of a log stand.
use Rattle.std.proofs.Common.{◌≡◌, ℕ, ◌<◌, ◌≤◌, false, List, sym, ◌∙◌, subst, inr, ⊎_elim}
use Rattle.association_slots.specs.Cards.{Knows}
use Rattle.association_slots.specs.Views.{In, HasLoaded, present_at}
use Rattle.association_slots.specs.declared.card.Card.{Card}
use Rattle.association_slots.specs.declared.view.Addition.{Addition}
use Rattle.association_slots.specs.declared.view.Current.{Current}
use Rattle.association_slots.specs.declared.view.Mark.{Mark}
use Rattle.association_slots.specs.declared.view.NextSeen.{NextSeen}
use Rattle.association_slots.specs.declared.view.Start.{Start}
use Rattle.association_slots.specs.declared.view.SeatView.{SeatView}
use Rattle.association_slots.proofs.Public.{in_right}
use Rattle.lan_base.specs.declared.association_number.AssociationNumber.{AssociationNumber}
use Rattle.lan_base.specs.declared.frame.Protected.{Protected}
use Rattle.packet_claims.specs.declared.answers.NoClaim.TheVariants.{NoKey, Exhausted}
use Rattle.packet_claims.specs.Claims.{Stays, IsClaim, IsNoKey, IsExhausted}
use Rattle.data_workers.specs.declared.entry.Entry.{Entry}
use Rattle.data_workers.specs.declared.entry.Entry.TheVariants.{Taken, Refused}
use Rattle.data_workers.specs.declared.sender.Sender.{Sender}
use Rattle.data_workers.specs.Logs.{claim_of, IsProtectedBy, IsEntry}

-- what a view has, a later one has too
pub record Grows (v w : SeatView) : Type 0 where
  pub number : w.number ≡ v.number
  pub start : w.start ≡ v.start
  pub additions : (a : Addition) → In a v.additions → In a w.additions
  pub loaded : (p : Current) → In p v.loaded → In p w.loaded
  pub notes : (e : ℕ) → In e v.notes → In e w.notes
  pub over : (m : Mark) → In m v.over → In m w.over
  pub reads : (r : ℕ × ℕ) → In r v.reads → In r w.reads

module _ (v w : SeatView) where
  reads_on : (lost : List Addition) → Stays v w lost → (r : ℕ × ℕ) → In r v.reads → In r w.reads
  reads_on lost s r i = subst (In r) (sym s.reads.1) (in_right r s.reads.0 v.reads i)

  pub claim_grows : (an : AssociationNumber) (epoch pn : ℕ) (card : Card) → IsClaim v w an epoch pn card → Grows v w
  claim_grows an epoch pn card k = record {
    number = k.stays.number;
    start = k.stays.start;
    additions = λ a i. subst (In a) (sym k.additions) (inr (in_right a k.lost v.additions i));
    loaded = k.stays.loaded;
    notes = λ e i. subst (In e) (sym k.notes) i;
    over = λ m i. subst (In m) (sym k.over) i;
    reads = reads_on k.lost k.stays;
  }

  pub no_key_grows : (after : ℕ) → IsNoKey v w after → Grows v w
  no_key_grows after k = record {
    number = k.stays.number;
    start = k.stays.start;
    additions = λ a i. subst (In a) (sym k.additions) (in_right a k.lost v.additions i);
    loaded = k.stays.loaded;
    notes = λ e i. subst (In e) (sym k.notes) (inr i);
    over = λ m i. subst (In m) (sym k.over) i;
    reads = reads_on k.lost k.stays;
  }

  pub exhausted_grows : (epoch : ℕ) → IsExhausted v w epoch → Grows v w
  exhausted_grows epoch k = record {
    number = k.stays.number;
    start = k.stays.start;
    additions = λ a i. ⊎_elim (λ is. subst (In a) (sym is) (in_right a k.lost v.additions i)) (λ is. subst (In a) (sym is) (inr (in_right a k.lost v.additions i))) k.additions;
    loaded = k.stays.loaded;
    notes = λ e i. subst (In e) (sym k.notes) i;
    over = k.marks;
    reads = reads_on k.lost k.stays;
  }

-- An entry stands while the view grows

module _ (s : Sender) (v w : SeatView) (g : Grows v w) where
  knows_on : (epoch : ℕ) (card : Card) → Knows v.reads epoch card → Knows w.reads epoch card
  knows_on epoch card k = (k.0, k.1, k.2, k.3, k.4, g.reads _ k.5, g.reads _ k.6, g.reads _ k.7, g.reads _ k.8, g.reads _ k.9, k.10)

  -- what holds of the start holds of it later
  start_on : (P : Start → Type 0) → P v.start → P w.start
  start_on P p = subst P (sym g.start) p

  taken_on : (p : Protected) → IsProtectedBy v s p → IsProtectedBy w s p
  taken_on p t = record {
    of_station = t.of_station;
    claim = subst (λ (n : ℕ). In (claim_of n p) w.additions) (sym g.number) (g.additions _ t.claim);
    range = t.range;
    loaded = (t.loaded.0, g.loaded (present_at p.an p.epoch) t.loaded.1);
    card = t.card;
    knows = knows_on p.epoch t.card t.knows;
    octets = t.octets;
    start = start_on (λ (b : Start). (b.last ≤ p.epoch) × (b.present ≡ false → b.last < p.epoch)) t.start;
    given = start_on (λ (b : Start). (f : NextSeen) → In f b.given → (f.epoch ≤ p.epoch) × (f.an ≡ p.an → f.epoch ≡ p.epoch → f.next ≤ p.pn)) t.given;
  }

  loaded_on : (epoch : ℕ) → HasLoaded v epoch → HasLoaded w epoch
  loaded_on epoch l = (l.0, g.loaded _ l.1)

  pub entry_on : (x : Entry) → IsEntry v s x → IsEntry w s x
  entry_on (Taken p) t = taken_on p t
  entry_on (Refused station (NoKey after)) t = (t.0, (g.notes after t.1.0, start_on (λ (b : Start). b.last ≤ after) t.1.1))
  entry_on (Refused station (Exhausted epoch)) t = (
    t.0,
    ((t.1.0.0, g.over _ t.1.0.1, t.1.0.2 ∙ sym g.number, t.1.0.3), loaded_on epoch t.1.1, start_on (λ (b : Start). b.last ≤ epoch) t.1.2),
  )
