-- What a key holds.
use Rattle.std.specs.Prelude.{ℕ, List, take}
use Rattle.aes_block.specs.Column.{octets_of_words}
use Rattle.aes_block.specs.declared.expanded_key.Length.{Length}
use Rattle.aes_block.specs.declared.expanded_key.Length.TheVariants.{Bits128, Bits256}

-- how many words a key of this length has (FIPS 197, section 5.2)
abbrev pub words_of : Length → ℕ
words_of Bits128 = 4
words_of Bits256 = 8

-- the octets of a key: its first words
abbrev pub key_octets : Length → List ℕ → List ℕ
key_octets length words = octets_of_words (take (words_of length) words)
