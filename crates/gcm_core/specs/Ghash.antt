-- The hash of GCM (SP 800-38D, sections 6.3 and 6.4). A block is a string of 128 bits, the leftmost
-- one first.
use Rattle.std.specs.Prelude.{ℕ, Bool, true, false, List, [], ◌∷◌, replicate}
use Rattle.aes_block.specs.Bits.{bits, has_bit}
use Rattle.aes_block.specs.Product.{product, sum_of}

-- R: 11100001 and then 120 zeros (6.3)
unfoldable pub reduction : List Bool
reduction = true ∷ true ∷ true ∷ false ∷ false ∷ false ∷ false ∷ true ∷ replicate 120 false

-- the next hash: its sum with a block, times H (6.4, step 3)
abbrev pub next_hash : List Bool → List Bool → List ℕ → List Bool
next_hash h y block = product reduction (sum_of y (bits block)) h

-- the hash after blocks of octets, from one before them (6.4)
abbrev pub ghash : List Bool → List Bool → List (List ℕ) → List Bool
ghash h y [] = y
ghash h y (block ∷ blocks) = ghash h (next_hash h y block) blocks

-- the block whose first four places have the bits of a number below 16, the highest first
abbrev pub four_places : ℕ → List Bool
four_places n = has_bit n 3 ∷ has_bit n 2 ∷ has_bit n 1 ∷ has_bit n 0 ∷ replicate 124 false
