-- Round keys as the rounds take them.
use Rattle.std.specs.Prelude.{◌≡◌, ◌<◌, ◌≤◌, ◌⊎◌, ℕ, nat_lt, if◌then◌else◌, List, [], length, map, slice_index_or}
use Rattle.aes_block.specs.Aes.{IsBlock, IsKey}
use Rattle.aes_block.specs.Expansion.{expanded_key, round_count, round_key}
use Rattle.aes_block.specs.inside.Halves.{changed, masked, masked_last}
use Rattle.aes_block.specs.declared.look_ups.Row.{Row}

-- the octets of row i
abbrev pub lanes_at : List Row → ℕ → List ℕ
lanes_at rows i = (slice_index_or rows i (record { lanes = [] })).lanes

-- the key of round i, where the last round is given
abbrev pub kept : ℕ → ℕ → List ℕ → List ℕ
kept i last octets =
    if nat_lt 0 i then (if nat_lt i last then map masked octets else map masked_last octets)
    else map changed octets

-- a key of 128 or 256 bits, the number of its rounds, and its round keys
pub record AreKept (key : List ℕ) (last : ℕ) (rows : List Row) : Type 0 where
  pub is_key : IsKey key
  pub count : last ≡ round_count key
  pub two : (length key ≡ 16) ⊎ (length key ≡ 32)
  pub are : (i : ℕ) → i ≤ last → lanes_at rows i ≡ kept i last (round_key (expanded_key key) i)

-- the round keys of n rounds, of which the last one is another round
pub record AreRoundKeys (words : List (List ℕ)) (n : ℕ) (rows : List Row) : Type 0 where
  pub blocks : (i : ℕ) → i ≤ n → IsBlock (round_key words i)
  pub first : lanes_at rows 0 ≡ map changed (round_key words 0)
  pub between : (i : ℕ) → 1 ≤ i → i < n → lanes_at rows i ≡ map masked (round_key words i)
  pub last : lanes_at rows n ≡ map masked_last (round_key words n)
