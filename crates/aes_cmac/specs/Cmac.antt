-- CMAC over AES (NIST SP 800-38B), on lists of octets. Section numbers are the standard's.
use Rattle.std.specs.Prelude.{ℕ, zero, suc, ◌-◌, ◌*◌, ◌/◌, ◌%◌, ◌^◌, ◌==◌, nat_lt, if◌then◌else◌, List, ◌∷◌, ◌++◌, length, take, drop, replicate, bit_xor}
use Rattle.std.specs.Int.{w128, from_be_bytes, to_be_bytes}
use Rattle.aes_block.specs.Octet.{octets_sum}
use Rattle.aes_block.specs.Aes.{aes}

-- 128 bits moved left by one, and where a bit 1 falls out, with 1000 0111 added (6.1)
abbrev pub doubled_bits : ℕ → ℕ
doubled_bits bits = if nat_lt bits (2 ^ 127) then 2 * bits else bit_xor (2 * bits % 2 ^ 128) 0x87

-- a block, its first bit the highest, doubled so (6.1)
unfoldable pub doubled : List ℕ → List ℕ
doubled block = to_be_bytes w128 (doubled_bits (from_be_bytes w128 block))

-- the first subkey: the ciphertext of the zero block, doubled (6.1)
abbrev pub first_subkey : List ℕ → List ℕ
first_subkey key = doubled (aes key (replicate 16 0))

-- the second subkey: the first one, doubled (6.1)
abbrev pub second_subkey : List ℕ → List ℕ
second_subkey key = doubled (first_subkey key)

-- a block of a message, counted from 0: 16 octets, or those that are left
abbrev pub block : List ℕ → ℕ → List ℕ
block message i = take 16 (drop (16 * i) message)

-- how many blocks come before the last one, which has 1 to 16 octets, or none if the message is
-- empty
abbrev pub before_last : List ℕ → ℕ
before_last message = (length message - 1) / 16

-- a part of a block, and then a bit 1 and bits 0 (6.2, step 4)
abbrev pub padded_part : List ℕ → List ℕ
padded_part part = part ++ 0x80 ∷ replicate (15 - length part) 0

-- the last block: whole, with the first subkey added, or padded, with the second one added (6.2,
-- step 4)
abbrev pub last_block : List ℕ → List ℕ → List ℕ
last_block key part =
    if length part == 16 then octets_sum part (first_subkey key)
    else octets_sum (padded_part part) (second_subkey key)

-- the chain after so many blocks: from zero, each time the ciphertext of the chain with the next
-- block added (6.2, steps 5 and 6)
unfoldable pub chain_after : List ℕ → List ℕ → ℕ → List ℕ
chain_after key message zero = replicate 16 0
chain_after key message (suc i) = aes key (octets_sum (chain_after key message i) (block message i))

-- the value of a message under a key (6.2)
unfoldable pub cmac : List ℕ → List ℕ → List ℕ
cmac key message =
    aes key (octets_sum (chain_after key message n) (last_block key (block message n))) where
      n : ℕ
      n = before_last message
