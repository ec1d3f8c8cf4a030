-- For which histories the receive slots stand: the only place that knows of records.
use Rattle.std.specs.Prelude.{◌≡◌, ℕ, ◌+◌, List, option_map, map}
use Rattle.std.specs.List.{filter}
use Rattle.aes_block.specs.Secrets.{secret_octets}
use Rattle.lan_base.specs.declared.association_number.AssociationNumber.{AssociationNumber}
use Rattle.lan_base.specs.declared.address.Sci.{Sci}
use Rattle.rx_slots.specs.Histories.{Receiving, standing_key}
use Rattle.rx_slots.specs.Numbers.{accepted, Taken, next_number, greatest, is_under}
use Rattle.rx_slots.specs.Slots.{Slots, slot_at, key_at, next_of, greatest_of}

-- one more than each number that was accepted under an association number
abbrev pub next_numbers : List Taken → AssociationNumber → List ℕ
next_numbers past an = map (λ t. t.pn + 1) (filter (is_under an) past)

-- The slots stand for a history: they have its keys, the next number of each sender, and the
-- greatest of these.
pub record StandsFor (own : Sci) (window : ℕ) (s : Slots) (h : List Receiving) : Type 0 where
  pub owner : s.own ≡ own
  pub width : s.window ≡ window
  pub keys : (an : AssociationNumber) → key_at s an ≡ option_map secret_octets (standing_key h an)
  pub numbers : (an : AssociationNumber) (sci : Sci) → next_of (slot_at s an) sci
      ≡ next_number (accepted own window h) an sci
  pub top : (an : AssociationNumber) → greatest_of (slot_at s an)
      ≡ greatest (next_numbers (accepted own window h) an)
