-- Four blocks at once: the powers of a hash key, and their rows.
use Rattle.std.specs.Prelude.{◌≡◌, ◌<◌, ℕ, zero, suc, Bool, List, [], ◌∷◌, map, bit_xor}
use lib.Lanes.{zip2}
use Rattle.aes_block.specs.Bits.{bits, octet_bits}
use Rattle.aes_block.specs.Product.{product, sum_of}
use Rattle.gcm_core.specs.Ghash.{reduction}
use Rattle.gcm_core.specs.inside.Rows.{rows_of_octet}

-- h ^ (n + 1)
abbrev pub power : List Bool → ℕ → List Bool
power h zero = h
power h (suc n) = product reduction (power h n) h

-- four blocks in a row
abbrev pub four_blocks : List ℕ → List ℕ → List ℕ → List ℕ → List (List ℕ)
four_blocks a b c d = a ∷ b ∷ c ∷ d ∷ []

-- the products of four blocks, the first of them after a hash, with the fourth power and so on
abbrev pub four_products : List Bool → List Bool → List ℕ → List ℕ → List ℕ → List ℕ → List Bool
four_products h y a b c d =
    sum_of (product reduction (sum_of y (bits a)) (power h 3))
    (sum_of (product reduction (bits b) (power h 2))
    (sum_of (product reduction (bits c) (power h 1)) (product reduction (bits d) h)))

-- the products of four blocks, no hash before them, with the fourth power and so on
abbrev pub four_powers : List Bool → List ℕ → List ℕ → List ℕ → List ℕ → List Bool
four_powers h a b c d =
    sum_of (product reduction (bits a) (power h 3))
    (sum_of (product reduction (bits b) (power h 2))
    (sum_of (product reduction (bits c) (power h 1)) (product reduction (bits d) h)))

-- 16 rows of a block: for each octet the octets of its product
abbrev pub AreRows : List Bool → (ℕ → ℕ → ℕ) → Type 0
AreRows h rows = (b : ℕ) → b < 256 → rows_of_octet rows 16 0 b ≡ product reduction (octet_bits b) h

-- the rows of the first four powers
pub record IsPrepared (h : List Bool) (one two three four : ℕ → ℕ → ℕ) : Type 0 where
  pub first : AreRows h one
  pub second : AreRows (power h 1) two
  pub third : AreRows (power h 2) three
  pub fourth : AreRows (power h 3) four

-- the rows o of four blocks, for four others, added
abbrev pub rows_sum : (ℕ → ℕ → ℕ) → (ℕ → ℕ → ℕ) → (ℕ → ℕ → ℕ) → (ℕ → ℕ → ℕ)
    → List ℕ → List ℕ → List ℕ → List ℕ → ℕ → List ℕ
rows_sum p q r s a b c d o =
    zip2 bit_xor (map (p o) a)
    (zip2 bit_xor (map (q o) b) (zip2 bit_xor (map (r o) c) (map (s o) d)))
