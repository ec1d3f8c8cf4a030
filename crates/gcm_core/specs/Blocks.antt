-- Strings of octets and of bits as GCM cuts, joins and counts them (SP 800-38D, section 6.1).
use Rattle.std.specs.Prelude.{ℕ, ◌+◌, ◌-◌, ◌*◌, ◌/◌, Bool, true, false, List, [], ◌∷◌, ◌++◌, length, replicate}
use Rattle.std.specs.Int.{w128, to_be_bytes}
use Rattle.std.specs.Simd.{first_chunks}
use Rattle.aes_block.specs.Bits.{bits}

-- how many blocks of 16 octets hold so many octets
abbrev pub block_count : ℕ → ℕ
block_count len = (len + 15) / 16

-- octets in blocks of 16, of which the last one may be short
unfoldable pub blocks_of : List ℕ → List (List ℕ)
blocks_of octets = first_chunks 16 (block_count (length octets)) octets

-- octets, and zeros up to a whole block
unfoldable pub padded : List ℕ → List ℕ
padded octets = octets ++ replicate (16 * block_count (length octets) - length octets) 0

-- the number that is written by the bits of a number and then these, the highest first
abbrev pub number_from : ℕ → List Bool → ℕ
number_from n [] = n
number_from n (true ∷ bs) = number_from (2 * n + 1) bs
number_from n (false ∷ bs) = number_from (2 * n) bs

-- the 16 octets of a number of 128 bits, the highest first
unfoldable pub block_octets : ℕ → List ℕ
block_octets n = to_be_bytes w128 n

-- the 128 bits of a number, the highest first
unfoldable pub block_bits : ℕ → List Bool
block_bits n = bits (block_octets n)

-- the 16 octets of a string of 128 bits
abbrev pub octets_of_bits : List Bool → List ℕ
octets_of_bits bs = block_octets (number_from 0 bs)
