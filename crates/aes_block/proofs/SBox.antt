-- The S-box and its inverse from look-ups are what FIPS 197 defines, octet by octet.
use Rattle.std.proofs.Common.{◌≡◌, ℕ, ◌<◌, refl, sym, ap, subst, ◌∙◌, bit_xor}
use Rattle.aes_block.specs.LookUp.{entry_at}
use Rattle.aes_block.specs.Octet.{affine, sub_octet, terms}
use Rattle.aes_block.specs.inside.Halves.{changed, first_half, inv_sub_octet, second_half}
use Rattle.aes_block.specs.declared.tables.TheConstants.{SUB_FIRST, SUB_SECOND}
use Rattle.aes_block.proofs.ByBits.{by_bits, inverse_by_bits, inverse-by_bits}
use Rattle.aes_block.proofs.EachOctet.{equal_at_octet, below_at_octet}

-- what the look-ups make of an octet
abbrev pub put_together : ℕ → ℕ
put_together x =
    bit_xor (bit_xor (entry_at SUB_FIRST (first_half (changed x))) (entry_at SUB_SECOND (second_half (changed x)))) 0x63

pub is_sub_octet : (n : ℕ) → n < 256 → put_together n ≡ sub_octet n
unfolding by_bits inverse_by_bits affine sub_octet
is_sub_octet n fits =
    equal_at_octet put_together (λ k. affine (inverse_by_bits (terms k))) refl n fits ∙ ap affine (sym (inverse-by_bits n))

put_together-lt : (n : ℕ) → n < 256 → put_together n < 256
put_together-lt = below_at_octet put_together 256 refl

pub inv_sub_octet-lt : (n : ℕ) → n < 256 → inv_sub_octet n < 256
inv_sub_octet-lt = below_at_octet inv_sub_octet 256 refl

put_together-inv_sub_octet : (n : ℕ) → n < 256 → put_together (inv_sub_octet n) ≡ n
put_together-inv_sub_octet = equal_at_octet (λ n. put_together (inv_sub_octet n)) (λ n. n) refl

inv_sub_octet-put_together : (n : ℕ) → n < 256 → inv_sub_octet (put_together n) ≡ n
inv_sub_octet-put_together = equal_at_octet (λ n. inv_sub_octet (put_together n)) (λ n. n) refl

-- what the S-box puts in place of an octet is an octet
pub sub_octet-lt : (n : ℕ) → n < 256 → sub_octet n < 256
sub_octet-lt n fits = subst (λ m. m < 256) (is_sub_octet n fits) (put_together-lt n fits)

-- the S-box after its inverse
pub sub_octet-inv_sub_octet : (n : ℕ) → n < 256 → sub_octet (inv_sub_octet n) ≡ n
sub_octet-inv_sub_octet n fits = sym (is_sub_octet (inv_sub_octet n) (inv_sub_octet-lt n fits)) ∙ put_together-inv_sub_octet n fits

-- the inverse after the S-box
pub inv_sub_octet-sub_octet : (n : ℕ) → n < 256 → inv_sub_octet (sub_octet n) ≡ n
inv_sub_octet-sub_octet n fits = ap inv_sub_octet (sym (is_sub_octet n fits)) ∙ inv_sub_octet-put_together n fits
