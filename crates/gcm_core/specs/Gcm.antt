-- GCM with an IV of 96 bits and a tag of 16 octets (SP 800-38D, sections 6.2, 6.5 and 7.1). Keys
-- and strings are lists of octets.
use Rattle.std.specs.Prelude.{ℕ, zero, suc, ◌+◌, ◌*◌, ◌%◌, ◌^◌, Bool, false, List, [], ◌++◌, length, take, drop, replicate}
use Rattle.std.specs.Int.{w32, w64, to_be_bytes, from_be_bytes}
use Rattle.aes_block.specs.Aes.{aes}
use Rattle.aes_block.specs.Bits.{bits}
use Rattle.aes_block.specs.Octet.{octets_sum}
use Rattle.gcm_core.specs.Blocks.{block_count, blocks_of, padded, octets_of_bits}
use Rattle.gcm_core.specs.Ghash.{ghash}

-- a plaintext has at most so many octets: those of 2 ^ 32 - 2 blocks (5.2.1.1); here additional data,
-- too, though the standard allows more of it
abbrev pub most_text_octets : ℕ
most_text_octets = 68719476704

-- inc 32: a counter block with one more in its last 32 bits, modulo 2 ^ 32 (6.2)
unfoldable pub increment : List ℕ → List ℕ
increment block =
    take 12 block ++ to_be_bytes w32 ((from_be_bytes w32 (drop 12 block) + 1) % 2 ^ 32)

-- so many counter blocks, from this one on, encrypted (6.5, steps 5 and 6)
abbrev pub key_stream : List ℕ → List ℕ → ℕ → List ℕ
key_stream key counter zero = []
key_stream key counter (suc n) = aes key counter ++ key_stream key (increment counter) n

-- GCTR: the sum of octets and the key stream, of which the last block may be used in part (6.5)
unfoldable pub gctr : List ℕ → List ℕ → List ℕ → List ℕ
gctr key counter octets = octets_sum octets (key_stream key counter (block_count (length octets)))

-- the counter block of an IV and a count of blocks
abbrev pub counter_block : List ℕ → ℕ → List ℕ
counter_block iv count = iv ++ to_be_bytes w32 count

-- J 0, the first counter block (7.1, step 2)
abbrev pub first_counter : List ℕ → List ℕ
first_counter iv = counter_block iv 1

-- H, the hash key: the block of zeros, encrypted (7.1, step 1)
unfoldable pub hash_key : List ℕ → List Bool
hash_key key = bits (aes key (replicate 16 0))

-- the lengths in bits of the additional data and of the ciphertext, each in 64 bits
unfoldable pub lengths : List ℕ → List ℕ → List ℕ
lengths extra ciphertext =
    to_be_bytes w64 (8 * length extra) ++ to_be_bytes w64 (8 * length ciphertext)

-- S, the hash of the additional data and the ciphertext (7.1, steps 4 and 5)
unfoldable pub hashed : List Bool → List ℕ → List ℕ → List Bool
hashed h extra ciphertext =
    ghash h (replicate 128 false) (blocks_of
    (padded extra ++ padded ciphertext ++ lengths extra ciphertext))

-- the ciphertext (7.1, step 3)
unfoldable pub gcm_text : List ℕ → List ℕ → List ℕ → List ℕ
gcm_text key iv text = gctr key (increment (first_counter iv)) text

-- the tag of additional data and ciphertext (7.1, step 6)
unfoldable pub gcm_tag : List ℕ → List ℕ → List ℕ → List ℕ → List ℕ
gcm_tag key iv extra ciphertext =
    gctr key (first_counter iv) (octets_of_bits (hashed (hash_key key) extra ciphertext))

-- the ciphertext and its tag (7.1)
abbrev pub gcm : List ℕ → List ℕ → List ℕ → List ℕ → List ℕ × List ℕ
gcm key iv extra text =
    let ciphertext = gcm_text key iv text in (ciphertext, gcm_tag key iv extra ciphertext)
