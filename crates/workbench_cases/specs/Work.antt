-- What the work of each test of a cipher comes to after n times, on lists of octets.
use Rattle.std.specs.Prelude.{ℕ, zero, suc, ◌+◌, ◌*◌, ◌%◌, List, [], ◌∷◌, map, replicate, slice_index, slice_set, bit_xor}
use Rattle.std.specs.List.{range_with_len}
use Rattle.aes_block.specs.Aes.{aes}
use Rattle.aes_cmac.specs.Cmac.{cmac}
use Rattle.gcm_core.specs.Gcm.{gcm}

-- so many octets, which begin from zero and rise by a step, modulo 256
unfoldable pub stepped : ℕ → ℕ → List ℕ
stepped step count = map (λ i. step * i % 256) (range_with_len 0 count)

-- the key of 128 bits: 0, 1 and so on to 15
abbrev pub key : List ℕ
key = stepped 1 16

-- the key of 256 bits: 0, 1 and so on to 31
abbrev pub long_key : List ℕ
long_key = stepped 1 32

-- the block: zero at first, and then the ciphertext of the block before
abbrev pub block_after : List ℕ → ℕ → List ℕ
block_after k zero = replicate 16 0
block_after k (suc n) = aes k (block_after k n)

-- a message with the first octet of a value added to its own, bit by bit
abbrev pub changed : List ℕ → List ℕ → List ℕ
changed message value = slice_set message 0 (bit_xor (slice_index message 0) (slice_index value 0))

-- the message: 150 octets at first, and then the message before, changed by its CMAC
abbrev pub message_after : ℕ → List ℕ
message_after zero = stepped 7 150
message_after (suc n) = changed (message_after n) (cmac key (message_after n))

-- the value: zero at first, and then the CMAC of the message before
abbrev pub value_after : ℕ → List ℕ
value_after zero = replicate 16 0
value_after (suc n) = cmac key (message_after n)

-- the IV, whose last octet counts on from 1, modulo 256
abbrev pub iv_after : ℕ → List ℕ
iv_after n = 2 ∷ 0 ∷ 0 ∷ 0 ∷ 0 ∷ 10 ∷ 0 ∷ 1 ∷ 0 ∷ 0 ∷ 0 ∷ ((1 + n) % 256) ∷ []

-- the tag of a text of so many octets under the n-th IV, with this additional data
abbrev pub tag_of : List ℕ → ℕ → ℕ → List ℕ → List ℕ
tag_of k length n extra = (gcm k (iv_after n) extra (stepped 7 length)).1

-- the additional data: 28 octets at first, and then the data before, changed by the tag with them
abbrev pub extra_after : List ℕ → ℕ → ℕ → List ℕ
extra_after k length zero = stepped 1 28
extra_after k length (suc n) =
    changed (extra_after k length n) (tag_of k length (suc n) (extra_after k length n))

-- the tag: zero at first, and then that with the additional data before
abbrev pub tag_after : List ℕ → ℕ → ℕ → List ℕ
tag_after k length zero = replicate 16 0
tag_after k length (suc n) = tag_of k length (suc n) (extra_after k length n)
