-- The five words of a card, this profile's own: four of the SAK, eight octets each and the highest
-- first, of which the last two are 0 for a SAK of 128 bits; in the fifth, bit 0 is the
-- confidentiality flag, and bit 1 is set for a SAK of 256 bits. The card of the epoch e lies in the
-- words from 5 e on.
use Rattle.std.specs.Prelude.{◌≡◌, ℕ, ◌+◌, ◌-◌, ◌*◌, ◌/◌, ◌%◌, ◌==◌, if◌then◌else◌, List, [], ◌∷◌, ◌++◌, length, drop, slice_index}
use Rattle.std.specs.Int.{w64, from_be_bytes, to_be_bytes}
use Rattle.association_slots.specs.Views.{In}
use Rattle.aes_block.specs.declared.secret.Secret.{Secret}
use Rattle.aes_block.specs.declared.secret.Secret.TheVariants.{S128, S256}
use Rattle.association_slots.specs.declared.card.Card.{Card}
use Rattle.association_slots.specs.declared.view.ControlView.{ControlView}

-- a table has room for at most so many cards
abbrev pub most_cards : ℕ
most_cards = 4096

-- the word of the eight octets from a place on
abbrev pub word_at : ℕ → List ℕ → ℕ
word_at place octets = from_be_bytes w64 (drop place octets)

abbrev pub octets_of : ℕ → List ℕ
octets_of word = to_be_bytes w64 word

abbrev pub sak_words : Secret → List ℕ
sak_words (S128 k) = word_at 0 k ∷ word_at 8 k ∷ 0 ∷ 0 ∷ []
sak_words (S256 k) = word_at 0 k ∷ word_at 8 k ∷ word_at 16 k ∷ word_at 24 k ∷ []

-- what bit 1 adds for the length
abbrev pub length_flag : Secret → ℕ
length_flag (S128 k) = 0
length_flag (S256 k) = 2

abbrev pub flags_of : Card → ℕ
flags_of card = length_flag card.sak + (if card.conf then 1 else 0)

abbrev pub card_words : Card → List ℕ
card_words card = sak_words card.sak ++ flags_of card ∷ []

-- the card that five words hold
abbrev pub card_in : ℕ → ℕ → ℕ → ℕ → ℕ → Card
card_in a b c d flags = record {
  sak =
      if flags / 2 % 2 == 1 then S256 (octets_of a ++ octets_of b ++ octets_of c ++ octets_of d)
      else S128 (octets_of a ++ octets_of b);
  conf = flags % 2 == 1;
}

-- how many epochs have a card
abbrev pub cards_given : ControlView → ℕ
cards_given c = length c.card_words / 5

-- the card of an epoch, from 1
abbrev pub card_at : ControlView → ℕ → Card
card_at c epoch = card_in (word 0) (word 1) (word 2) (word 3) (word 4)
  where
    word : ℕ → ℕ
    word i = slice_index c.card_words (5 * (epoch - 1) + i)

-- by the words that were read, this is the card of the epoch
abbrev pub Knows : List (ℕ × ℕ) → ℕ → Card → Type 0
Knows reads epoch card = (a b c d flags : ℕ) × In (5 * epoch, a) reads × In (5 * epoch + 1, b) reads
    × In (5 * epoch + 2, c) reads × In (5 * epoch + 3, d) reads × In (5 * epoch + 4, flags) reads
    × (card ≡ card_in a b c d flags)
