-- What becomes of the slots by a frame whose tag is right.
use Rattle.std.specs.Prelude.{◌≡◌, ◌≢◌, ℕ, ◌+◌, max, if◌then◌else◌, List, Option, Some, None}
use Rattle.std.specs.BTreeMap.{is_at}
use Rattle.lan_base.specs.declared.association_number.AssociationNumber.{AssociationNumber}
use Rattle.lan_base.specs.declared.address.Sci.{Sci}
use Rattle.rx_slots.specs.declared.arrival.Arrival.{Arrival}
use Rattle.rx_slots.specs.declared.arrival.Arrival.TheVariants.{Accepted, Malformed, Own, Missed, BadCheck, Late}
use Rattle.rx_slots.specs.Numbers.{is_late}
use Rattle.rx_slots.specs.Slots.{Standing, Slots, number_in, next_of, greatest_of, order, slot_at, key_at}

-- a sender's next number, after one of a sender was accepted
abbrev pub number_after : List (Sci × ℕ) → Sci → ℕ → Sci → ℕ
number_after numbers sci pn s =
    if is_at (order sci) s then max (pn + 1) (number_in numbers sci) else number_in numbers s

abbrev pub arrival_under : Option Standing → ℕ → Sci → AssociationNumber → ℕ → List ℕ → Arrival
arrival_under None window sci an pn body = Missed an
arrival_under (Some slot) window sci an pn body =
    if is_late window (number_in slot.numbers sci) pn then Late (number_in slot.numbers sci)
    else Accepted pn body

-- the answer by what stands
abbrev pub arrival_at : Slots → Sci → AssociationNumber → ℕ → List ℕ → Arrival
arrival_at s sci an pn body = arrival_under (slot_at s an) s.window sci an pn body

-- the slots after a number of a sender was accepted under an association number
pub record Takes (old new : Slots) (sci : Sci) (an : AssociationNumber) (pn : ℕ) : Type 0 where
  pub owner : new.own ≡ old.own
  pub width : new.window ≡ old.window
  pub others : (n : AssociationNumber) → n ≢ an → slot_at new n ≡ slot_at old n
  pub same_key : key_at new an ≡ key_at old an
  pub numbers : (s : Sci) → next_of (slot_at new an) s
      ≡ (if is_at (order sci) s then max (pn + 1) (next_of (slot_at old an) sci)
      else next_of (slot_at old an) s)
  pub top : greatest_of (slot_at new an) ≡ max (greatest_of (slot_at old an)) (pn + 1)

-- the slots after an answer
abbrev pub After : Arrival → Slots → Slots → Sci → AssociationNumber → Type 0
After (Accepted pn body) old new sci an = Takes old new sci an pn
After (Malformed refusal) old new sci an = new ≡ old
After Own old new sci an = new ≡ old
After (Missed n) old new sci an = new ≡ old
After BadCheck old new sci an = new ≡ old
After (Late next) old new sci an = new ≡ old
