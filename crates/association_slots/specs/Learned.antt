-- What the rule says of control's view alone, so of all that seats told. Control learns it where a
-- seat goes out and where one comes back.
use Rattle.std.specs.Prelude.{◌≡◌, ◌⊎◌, ℕ, ◌+◌, ◌^◌, ◌<◌, ◌≤◌, Bool, true, false}
use Rattle.association_slots.specs.Views.{In, present_at, IsOpen, WasShut, WasAbsent, AllIn, lost, claimed, count, told_sum}
use Rattle.association_slots.specs.Cards.{card_at, Knows}
use Rattle.association_slots.specs.Rule.{Settled, tagged}
use Rattle.lan_base.specs.declared.association_number.AssociationNumber.{AssociationNumber}
use Rattle.association_slots.specs.declared.view.NextSeen.{NextSeen}
use Rattle.association_slots.specs.declared.view.Addition.{Addition}
use Rattle.association_slots.specs.declared.view.Mark.{Mark}
use Rattle.association_slots.specs.declared.view.ControlView.{ControlView}
use Rattle.association_slots.specs.declared.card.Card.{Card}

-- what the next number n of a slot is that shows the epoch, for control: above each number that was
-- claimed, not below what control saw, above 2 ^ 32 where the epoch was marked as over; with no
-- seat out the sum of what was told, above 2 ^ 32 by no more than what got nothing
pub record IsNext (c : ControlView) (an : AssociationNumber) (epoch n : ℕ) : Type 0 where
  pub above_claims : (a : Addition) → In a c.told → a.claimed ≡ true → a.an ≡ an → a.met ≡ epoch
      → a.pn < n
  pub above_loads : (f : NextSeen) → In f c.loads → f.an ≡ an → f.epoch ≡ epoch → f.next ≤ n
  pub above_over : (m : Mark) → In m c.told_over → m.an ≡ an → m.epoch ≡ epoch → 2 ^ 32 < n
  pub is_sum : AllIn c → n ≡ told_sum c an epoch
  pub bound : AllIn c → n ≤ 2 ^ 32 + count (lost an epoch) c.told

-- what a next number is that control found at a shut: above each number that was claimed, not below what
-- control saw, above 2 ^ 32 where the epoch was marked as over; with no seat out at most the sum of what
-- was told, since later additions may have met the epoch, and above 2 ^ 32 by no more than what got nothing
pub record WasNext (c : ControlView) (f : NextSeen) : Type 0 where
  pub above_claims : (a : Addition) → In a c.told → a.claimed ≡ true → a.an ≡ f.an → a.met ≡ f.epoch
      → a.pn < f.next
  pub above_loads : (g : NextSeen) → In g c.loads → g.an ≡ f.an → g.epoch ≡ f.epoch
      → g.next ≤ f.next
  pub above_over : (m : Mark) → In m c.told_over → m.an ≡ f.an → m.epoch ≡ f.epoch → 2 ^ 32 < f.next
  pub low : AllIn c → (f.next ≤ told_sum c f.an f.epoch)
      × (f.next ≤ 2 ^ 32 + count (lost f.an f.epoch) c.told)

-- a told addition: it was pointed at what it had loaded, and a claim is a packet number of that
-- epoch
pub record IsTold (c : ControlView) (a : Addition) : Type 0 where
  pub seat : (0 < a.seat) × (a.seat < 9)
  pub raised : In (a.an, a.met) c.raises
  pub pointed : In (present_at a.an a.loaded) c.points
  pub claim : a.claimed ≡ true → (a.loaded ≡ a.met) × (c.first ≤ a.pn) × (a.pn < 2 ^ 32)
  pub cause : AllIn c → a.claimed ≡ false → In (record {
    seat = a.seat;
    an = a.an;
    epoch = a.loaded;
  }) c.told_gone ⊎ ((a.loaded ≡ a.met) × In (record {
    seat = a.seat;
    an = a.an;
    epoch = a.met;
  }) c.told_over)

pub record Learned (c : ControlView) : Type 0 where
  pub settled : Settled c
  pub additions : (a : Addition) → In a c.told → IsTold c a
  pub differ : (epoch pn : ℕ) → count (claimed epoch pn) c.told ≤ 1
  pub twice : (number epoch : ℕ) (of_it : Bool) → count (tagged number epoch of_it) c.told ≤ 1
  pub open_next : (an : AssociationNumber) (epoch : ℕ) → IsOpen c an epoch → (n : ℕ)
      × IsNext c an epoch n
  pub shut_next : (f : NextSeen) → In f c.found → WasNext c f
  pub loads : (f : NextSeen) → In f c.loads → In (f.an, f.epoch) c.raises
  pub over : (m : Mark) → In m c.told_over → In (present_at m.an m.epoch) c.points
  pub gone : (m : Mark) → In m c.told_gone → WasShut c m.an m.epoch
      × In (present_at m.an m.epoch) c.points
  pub noted : (e : ℕ) → In e c.told_notes → WasAbsent c.points e
  pub cards : (epoch : ℕ) (card : Card) → 0 < epoch → Knows c.told_reads epoch card
      → card_at c epoch ≡ card
