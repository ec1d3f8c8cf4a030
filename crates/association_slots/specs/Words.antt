-- The layout of the words, this profile's own. Words 0 to 3 are the slots of AN 0 to 3: the epoch
-- from bit 40 on, in bit 39 whether the slot is shut, below it the next packet number. Word 4 is
-- the current word: the epoch from bit 40 on, in bit 39 whether it is present, the AN in bits 1 and
-- 0.
use Rattle.std.specs.Prelude.{ℕ, ◌+◌, ◌*◌, ◌/◌, ◌%◌, ◌^◌, Bool, ◌==◌}
use Rattle.lan_base.specs.AssociationNumbers.{number_of, of_bits}
use Rattle.lan_base.specs.declared.association_number.AssociationNumber.{AssociationNumber}
use Rattle.association_slots.specs.declared.view.Current.{Current}

abbrev pub epoch_of : ℕ → ℕ
epoch_of word = word / 2 ^ 40

-- bit 39: a slot is shut, a key is present
abbrev pub flag_of : ℕ → Bool
flag_of word = word / 2 ^ 39 % 2 == 1

abbrev pub next_of : ℕ → ℕ
next_of word = word % 2 ^ 39

-- the AN of the two lowest bits
abbrev pub an_of : ℕ → AssociationNumber
an_of word = of_bits (word / 2 % 2 == 1) (word % 2 == 1)

-- what a current word shows
abbrev pub shown_by : ℕ → Current
shown_by word = record { epoch = epoch_of word; present = flag_of word; an = an_of word }

-- the word of a slot that is open
abbrev pub open_word : ℕ → ℕ → ℕ
open_word epoch next = epoch * 2 ^ 40 + next

-- a current word with an epoch present under an AN
abbrev pub present_word : ℕ → AssociationNumber → ℕ
present_word epoch an = epoch * 2 ^ 40 + (2 ^ 39 + number_of an)

-- a current word with nothing present, after that epoch
abbrev pub absent_word : ℕ → ℕ
absent_word epoch = epoch * 2 ^ 40
