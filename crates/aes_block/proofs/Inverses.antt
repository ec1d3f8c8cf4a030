-- The inverse of an octet, found by a search, is the one octet whose product with it is 1.
use Rattle.std.proofs.Common.{◌≡◌, ℕ, ◌<◌, Bool, true, not, ◌||◌, eqb, inl, inr, List, refl, sym, ap, ◌∙◌, arith}
use Rattle.std.specs.List.{list_all}
use Rattle.std.proofs.lemmas.Bool.{both_ways, eq-eqb, eqb-true, not-true, or_cases}
use Rattle.aes_block.specs.Octet.{inverse, octets, terms, times}
use Rattle.aes_block.proofs.EachOctet.{at_octet, below_at_octet}
use Rattle.aes_block.proofs.ByBits.{by_bits, inverse_by_bits, inverse-by_bits, times-by_bits}

-- 0 has none
pub inverse-zero : inverse 0 ≡ 0
unfolding times inverse
inverse-zero = refl

found-lt : (a : ℕ) → a < 256 → inverse_by_bits (terms a) < 256
unfolding by_bits inverse_by_bits
found-lt = below_at_octet (λ a. inverse_by_bits (terms a)) 256 refl

-- whether the product with the inverse is 1, unless the octet is 0
abbrev has_inverse : ℕ → Bool
has_inverse a = eqb a 0 || eqb (by_bits (terms a) (inverse_by_bits (terms a))) 1

all_have : list_all has_inverse octets ≡ true
unfolding by_bits inverse_by_bits
all_have = refl

-- whether v is the only octet whose product with the one of this string is 1
abbrev is_only : List Bool → ℕ → Bool
is_only us v = list_all (λ b. not (eqb (by_bits us b) 1) || eqb b v) octets

all_only : list_all (λ a. is_only (terms a) (inverse_by_bits (terms a))) octets ≡ true
unfolding by_bits inverse_by_bits
all_only = refl

pub times-inverse : (a : ℕ) → 0 < a → a < 256 → times a (inverse a) ≡ 1
times-inverse a some fits =
    ap (times a) (inverse-by_bits a) ∙ times-by_bits a _ (found-lt a fits)
    ∙ elim (or_cases (eqb a 0) (eqb (by_bits (terms a) (inverse_by_bits (terms a))) 1) (at_octet has_inverse all_have a fits)) [
      | inl zero_is ↦ absurd (omega (arith, eqb-true a 0 zero_is))
      | inr one_is ↦ eqb-true (by_bits (terms a) (inverse_by_bits (terms a))) 1 one_is
    ]

pub inverse-only : (a b : ℕ) → a < 256 → b < 256 → times a b ≡ 1 → b ≡ inverse a
inverse-only a b fa fb is =
    let one : by_bits (terms a) b ≡ 1 = sym (times-by_bits a b fb) ∙ is in
    let v = inverse_by_bits (terms a) in
    let found = at_octet (λ c. not (eqb (by_bits (terms a) c) 1) || eqb c v)
    (at_octet (λ c. is_only (terms c) (inverse_by_bits (terms c))) all_only a fa) b fb in
    elim (or_cases (not (eqb (by_bits (terms a) b) 1)) (eqb b v) found) [
      | inl other ↦ absurd (both_ways (eqb (by_bits (terms a) b) 1) (not-true (eqb (by_bits (terms a) b) 1) other) (eq-eqb (by_bits (terms a) b) 1 one))
      | inr alike ↦ eqb-true b v alike ∙ sym (inverse-by_bits a)
    ]
