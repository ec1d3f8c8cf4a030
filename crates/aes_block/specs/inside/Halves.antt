-- What the look-ups make of one octet.
use Rattle.std.specs.Prelude.{ℕ, ◌/◌, bit_and, bit_xor}
use Rattle.aes_block.specs.LookUp.{entry_at}
use Rattle.aes_block.specs.inside.Tables.{inverses, constant_over, basis_low, basis_high, undone_low, undone_high}
use Rattle.aes_block.specs.inside.Tables.{inverse_first, inverse_second}

-- an octet in the other basis
abbrev pub changed : ℕ → ℕ
changed x =
    bit_xor (entry_at basis_low (bit_and x 15)) (entry_at basis_high (x / 16))

-- the sum of an octet's halves
abbrev pub both : ℕ → ℕ
both x = bit_xor (x / 16) (bit_and x 15)

-- a constant over its second half
abbrev pub over : ℕ → ℕ
over x = entry_at constant_over (bit_and x 15)

-- the first half of the inverse of an octet in the other basis
abbrev pub first_half : ℕ → ℕ
first_half x =
    bit_xor (entry_at inverses (bit_xor (entry_at inverses (x / 16)) (over x))) (both x)

-- the second half of that inverse
abbrev pub second_half : ℕ → ℕ
second_half x =
    bit_xor (entry_at inverses (bit_xor (entry_at inverses (both x)) (over x))) (x / 16)

-- the octet whose affine map this is, in the other basis
abbrev pub undone : ℕ → ℕ
undone x = bit_xor (entry_at undone_low (bit_and x 15)) (entry_at undone_high (x / 16))

-- the octet in whose place the S-box puts this one
abbrev pub inv_sub_octet : ℕ → ℕ
inv_sub_octet x =
    bit_xor (entry_at inverse_first (first_half (undone x)))
    (entry_at inverse_second (second_half (undone x)))

-- an octet of a round key, with the S-box's constant
abbrev pub masked : ℕ → ℕ
masked k = bit_xor (changed k) 0x5b

-- an octet of the last round key, with that constant
abbrev pub masked_last : ℕ → ℕ
masked_last k = bit_xor k 0x63
