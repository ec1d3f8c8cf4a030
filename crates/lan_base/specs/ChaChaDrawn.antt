-- The draws of a supply that reads ChaCha's key stream.
use Rattle.std.specs.Prelude.{ℕ, ◌+◌, ◌*◌, ◌%◌, ◌^◌, List, ◌++◌, Option, Some}
use Rattle.std.specs.Int.{w32, to_le_bytes}
use Rattle.rand_chacha.specs.ChaCha.{word_at}

-- what a contract sees of such a supply: eight words of key, and the draws so far, modulo 2 ^ 66
pub record Drawing : Type 0 where
  pub key : List ℕ
  pub drawn : ℕ

-- the word at a place of the key stream of 20 rounds under the nonce 0, the lowest octet first
abbrev pub word_octets : List ℕ → ℕ → List ℕ
word_octets key place = to_le_bytes w32 (word_at 10 key 0 place)

-- four words, from a place on
unfoldable pub four_words : List ℕ → ℕ → List ℕ
four_words key place =
    word_octets key place ++ word_octets key (place + 1)
    ++ word_octets key (place + 2) ++ word_octets key (place + 3)

-- after so many draws, the draw that comes after k others
abbrev pub chacha_from : List ℕ → ℕ → ℕ → Option (List ℕ)
chacha_from key drawn k = Some (four_words key (4 * ((drawn + k) % 2 ^ 66)))
