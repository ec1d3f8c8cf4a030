-- Octets as elements of a field of 256 elements (FIPS 197, section 4), and the S-box over them.
use Rattle.std.specs.Prelude.{ℕ, ◌+◌, ◌*◌, ◌%◌, Bool, true, false, ◌==◌, List, [], ◌∷◌, map, fold, reverse, unwrap_or, bit_xor}
use Rattle.std.specs.List.{find, range_with_len}
use lib.Lanes.{zip2}
use Rattle.aes_block.specs.Bits.{has_bit, octet_bits}
use Rattle.aes_block.specs.Product.{bit_sum, product}

-- an octet as a polynomial: its bits, the lowest first
abbrev pub terms : ℕ → List Bool
terms octet = reverse (octet_bits octet)

-- the octet with these bits, the lowest first
abbrev pub octet_of : List Bool → ℕ
octet_of [] = 0
octet_of (true ∷ bs) = 1 + 2 * octet_of bs
octet_of (false ∷ bs) = 2 * octet_of bs

-- the sum of two octets (4.1)
infixl 6 ◌⊕◌
abbrev pub ◌⊕◌ : ℕ → ℕ → ℕ
a ⊕ b = bit_xor a b

-- the sum of octets, place by place (4.1)
abbrev pub octets_sum : List ℕ → List ℕ → List ℕ
octets_sum as' bs = zip2 bit_xor as' bs

-- the product of two octets modulo x ^ 8 + x ^ 4 + x ^ 3 + x + 1 (4.2)
unfoldable pub times : ℕ → ℕ → ℕ
times a b = octet_of (product (terms 0x1b) (terms a) (terms b))

-- all octets
abbrev pub octets : List ℕ
octets = range_with_len 0 256

-- the octet whose product with this one is 1, and 0 where there is none (4.2)
unfoldable pub inverse : ℕ → ℕ
inverse a = unwrap_or (find (λ b. times a b == 1) octets) 0

-- bit i of the affine map: the sum of bit i of 0x63 and of the bits i, i + 4, i + 5, i + 6 and i +
-- 7, modulo 8 (5.1.1)
abbrev pub affine_bit : ℕ → ℕ → Bool
affine_bit b i =
    fold bit_sum (has_bit 0x63 i) (map (λ k. has_bit b ((i + k) % 8)) (0 ∷ 4 ∷ 5 ∷ 6 ∷ 7 ∷ []))

-- the affine map of an octet (5.1.1)
unfoldable pub affine : ℕ → ℕ
affine b = octet_of (map (affine_bit b) (range_with_len 0 8))

-- the S-box: the inverse, and then the affine map (5.1.1)
unfoldable pub sub_octet : ℕ → ℕ
sub_octet a = affine (inverse a)
