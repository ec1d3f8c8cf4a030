-- Words of the key as numbers.
use Rattle.std.specs.Prelude.{ℕ, List, map}
use Rattle.std.specs.Int.{w32, to_be_bytes}
use Rattle.std.specs.List.{concat}

-- the octets of a word: that of row 0 is the highest (3.5)
unfoldable pub octets_of : ℕ → List ℕ
octets_of word = to_be_bytes w32 word

-- the octets of words, one word after the other
abbrev pub octets_of_words : List ℕ → List ℕ
octets_of_words words = concat (map octets_of words)
