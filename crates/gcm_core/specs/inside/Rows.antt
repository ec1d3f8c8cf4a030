-- A product by rows: row o has, for each octet of a block, octet o of its product with a hash key.
use Rattle.std.specs.Prelude.{ℕ, zero, suc, ◌/◌, Bool, false, List, [], ◌∷◌, ◌++◌, replicate, slice_index_or, bit_and, bit_xor}
use Rattle.aes_block.specs.Bits.{octet_bits}
use Rattle.aes_block.specs.Product.{sum_of}
use Rattle.gcm_core.specs.inside.Tables.{times_power}
use Rattle.aes_block.specs.LookUp.{entry_at}
use Rattle.aes_block.specs.declared.look_ups.Row.{Row}

-- an octet at the first places of a block
abbrev pub first_octet : ℕ → List Bool
first_octet b = octet_bits b ++ replicate 120 false

-- what a function makes of each octet, at the octet's places
abbrev pub lanes_sum : (ℕ → List Bool) → List ℕ → List Bool
lanes_sum f [] = replicate 128 false
lanes_sum f (x ∷ xs) = sum_of (f x) (times_power 8 (lanes_sum f xs))

-- k rows from row o on, for one octet: each row is an octet further than the one before it
abbrev pub rows_of_octet : (ℕ → ℕ → ℕ) → ℕ → ℕ → ℕ → List Bool
rows_of_octet rows zero o b = replicate 128 false
rows_of_octet rows (suc k) o b =
    sum_of (first_octet (rows o b)) (times_power 8 (rows_of_octet rows k (suc o) b))

-- k rows from row o on, for all octets of a block at once, as the code does it: a vector for each row
abbrev pub rows_of_block : (ℕ → ℕ → ℕ) → ℕ → ℕ → List ℕ → List Bool
rows_of_block rows zero o xs = replicate 128 false
rows_of_block rows (suc k) o xs =
    sum_of (lanes_sum (λ x. first_octet (rows o x)) xs)
    (times_power 8 (rows_of_block rows k (suc o) xs))

-- what two tables of 16 have for an octet: one for its first four bits, one for the last
abbrev pub row_of : List ℕ → List ℕ → ℕ → ℕ
row_of first last x = bit_xor (entry_at first (x / 16)) (entry_at last (bit_and x 15))

-- the octets of row o
abbrev pub lanes_in : List Row → ℕ → List ℕ
lanes_in rows o = (slice_index_or rows o (record { lanes = [] })).lanes

-- what row o of two tables has for each octet
abbrev pub rows_in : List Row → List Row → ℕ → ℕ → ℕ
rows_in first last o = row_of (lanes_in first o) (lanes_in last o)

-- 32 octets as a block: the first 16, and x ^ 128 times the others
abbrev pub value : List ℕ → List ℕ → List Bool
value low high = sum_of (lanes_sum first_octet low) (times_power 128 (lanes_sum first_octet high))
