-- What contracts see of the receive slots.
use Rattle.std.specs.Prelude.{ℕ, List, Option, Some, None, option_map, unwrap_or, slice_index_or}
use Rattle.std.specs.Map.{lookup}
use Rattle.std.specs.BTreeMap.{is_at}
use Rattle.std.specs.Ordering.{nat_cmp}
use Rattle.std.specs.Cmp.Lexicographic.{slice_cmp}
use Rattle.std.specs.declared.cmp.Ordering.{Ordering}
use Rattle.lan_base.specs.declared.association_number.AssociationNumber.{AssociationNumber}
use Rattle.lan_base.specs.AssociationNumbers.{number_of}
use Rattle.lan_base.specs.declared.address.Sci.{Sci}

-- what stands under an association number: the octets of the key, next numbers by sender, and the
-- greatest of them
pub record Standing : Type 0 where
  pub key : List ℕ
  pub numbers : List (Sci × ℕ)
  pub greatest : ℕ

-- the station's own SCI, its window, and what stands under each association number, in their order
pub record Slots : Type 0 where
  pub own : Sci
  pub window : ℕ
  pub slots : List (Option Standing)

-- the order of two SCIs: by the first octet in which they differ
abbrev pub order : Sci → Sci → Ordering
order s t = slice_cmp nat_cmp s.0 t.0

-- the next number that is kept for a sender, 1 for none
abbrev pub number_in : List (Sci × ℕ) → Sci → ℕ
number_in numbers sci = unwrap_or (lookup (is_at (order sci)) numbers) 1

-- what stands under an association number
abbrev pub slot_at : Slots → AssociationNumber → Option Standing
slot_at s an = slice_index_or s.slots (number_of an) None

abbrev pub key_at : Slots → AssociationNumber → Option (List ℕ)
key_at s an = option_map (λ slot. slot.key) (slot_at s an)

abbrev pub next_of : Option Standing → Sci → ℕ
next_of None sci = 1
next_of (Some slot) sci = number_in slot.numbers sci

abbrev pub greatest_of : Option Standing → ℕ
greatest_of None = 1
greatest_of (Some slot) = slot.greatest
