-- What the words of a table show of an account.
use Rattle.std.specs.Prelude.{◌≡◌, ◌≤◌, ℕ, true, not, List, slice_index}
use Rattle.lan_base.specs.declared.association_number.AssociationNumber.{AssociationNumber}
use Rattle.lan_base.specs.AssociationNumbers.{number_of}
use Rattle.association_slots.specs.Words.{epoch_of, flag_of, next_of, shown_by}
use Rattle.group_safety.specs.Transmitting.{now, names}
use Rattle.group_safety.specs.Accounts.{Account}
use Rattle.station_words.specs.Telling.{word_of}

-- The current word shows what transmits. A slot is shut but where a key transmits under its
-- association number; that slot has the key's epoch, and its next number is the account's.
pub record Show (a : Account) (words : List ℕ) : Type 0 where
  pub current : shown_by (slice_index words 4) ≡ word_of (now a.carried)
  pub shut : (an : AssociationNumber)
      → flag_of (slice_index words (number_of an)) ≡ not (names (now a.carried) an)
  pub opens : (now a.carried).present ≡ true
      → (epoch_of (slice_index words (number_of (now a.carried).an)) ≡ (now a.carried).epoch)
      × (next_of (slice_index words (number_of (now a.carried).an))
      ≡ a.nexts (now a.carried).epoch)

-- The same where the words keep up with an account: the slot's next number is not below it.
pub record ShowAtLeast (a : Account) (words : List ℕ) : Type 0 where
  pub current : shown_by (slice_index words 4) ≡ word_of (now a.carried)
  pub shut : (an : AssociationNumber)
      → flag_of (slice_index words (number_of an)) ≡ not (names (now a.carried) an)
  pub opens : (now a.carried).present ≡ true
      → (epoch_of (slice_index words (number_of (now a.carried).an)) ≡ (now a.carried).epoch)
      × (a.nexts (now a.carried).epoch
      ≤ next_of (slice_index words (number_of (now a.carried).an)))
