-- the definitions on worked values, by computing
use Rattle.std.proofs.Common.{◌≡◌, [], ◌∷◌, ◌++◌, replicate, refl}
use Rattle.std.specs.Int.{w128, to_be_bytes}
use Rattle.aes_cmac.specs.Cmac.{doubled, padded_part, before_last, block}

-- the subkeys of the examples for AES-128 (SP 800-38B, D.1), from the ciphertext of the zero block
first : doubled (to_be_bytes w128 0x7df76b0c1ab899b33e42f047b91b546f) ≡ to_be_bytes w128 0xfbeed618357133667c85e08f7236a8de
unfolding doubled
first = refl

second : doubled (to_be_bytes w128 0xfbeed618357133667c85e08f7236a8de) ≡ to_be_bytes w128 0xf7ddac306ae266ccf90bc11ee46d513b
unfolding doubled
second = refl

-- the empty message has one block, which is empty; 16 octets are one block, and 17 are two
none : before_last [] ≡ 0
none = refl

whole : before_last (replicate 16 7) ≡ 0
whole = refl

more : block (replicate 17 7) (before_last (replicate 17 7)) ≡ 7 ∷ []
more = refl

padded_none : padded_part [] ≡ 0x80 ∷ replicate 15 0
padded_none = refl

padded_most : padded_part (replicate 15 7) ≡ replicate 15 7 ++ 0x80 ∷ []
padded_most = refl
