-- The sum of a block times 1, x, x^2 and x^7 by shifts of numbers.
use Rattle.std.proofs.Common.{◌≡◌, ℕ, ◌*◌, ◌/◌, ◌%◌, ◌^◌, ◌<◌, Bool, true, false, cond, ◌&&◌, List, [], ◌∷◌, length, refl, sym, ap, ◌∙◌, arith, bit_xor}
use Rattle.std.specs.Int.Bits.{xor_shifted, xor_zero_r}
use Rattle.std.proofs.lemmas.Bool.{and_parts}
use Rattle.std.proofs.lemmas.Nat.{xor_shr}
use lib.Bits.{xor_assoc}
use Rattle.aes_block.specs.Product.{sum_of, times_x}
use Rattle.aes_block.proofs.Public.{at_octet, xor_swap}
use Rattle.gcm_core.specs.Blocks.{block_bits, block_octets}
use Rattle.gcm_core.specs.Ghash.{reduction}
use Rattle.gcm_core.specs.inside.Tables.{times_power}
use Rattle.gcm_core.proofs.Products.{block_bits-xor, length-block_bits, times_x-number}
use Rattle.gcm_core.proofs.Powers.{sum_of-inner, times_power-sum}
use Rattle.gcm_core.proofs.Folded.{folded}

-- what the code computes
abbrev pub fallen : ℕ → ℕ
fallen z = bit_xor (z * 2 ^ 127 % 2 ^ 128) (bit_xor (z * 2 ^ 126 % 2 ^ 128) (z * 2 ^ 121 % 2 ^ 128))

abbrev pub spread : ℕ → ℕ
spread f = bit_xor f (bit_xor (f / 2 ^ 1) (bit_xor (f / 2 ^ 2) (f / 2 ^ 7)))

-- and what it is to be
abbrev four_powers : List Bool → List Bool
four_powers v = sum_of v (sum_of (times_power 1 v) (sum_of (times_power 2 v) (times_power 7 v)))

-- ---- both are additive

spread-xor : (a b : ℕ) → spread (bit_xor a b) ≡ bit_xor (spread a) (spread b)
spread-xor a b =
    (λ i. bit_xor (bit_xor a b) (bit_xor (xor_shr a b 1 i) (bit_xor (xor_shr a b 2 i) (xor_shr a b 7 i))))
    ∙ ap (λ x. bit_xor (bit_xor a b) (bit_xor (bit_xor (a / 2 ^ 1) (b / 2 ^ 1)) x)) (xor_swap (a / 2 ^ 2) (b / 2 ^ 2) (a / 2 ^ 7) (b / 2 ^ 7))
    ∙ ap (bit_xor (bit_xor a b)) (xor_swap (a / 2 ^ 1) (b / 2 ^ 1) (bit_xor (a / 2 ^ 2) (a / 2 ^ 7)) (bit_xor (b / 2 ^ 2) (b / 2 ^ 7)))
    ∙ xor_swap a b (bit_xor (a / 2 ^ 1) (bit_xor (a / 2 ^ 2) (a / 2 ^ 7))) (bit_xor (b / 2 ^ 1) (bit_xor (b / 2 ^ 2) (b / 2 ^ 7)))

four_powers-sum : (u v : List Bool) → length u ≡ 128 → length v ≡ 128 → four_powers (sum_of u v) ≡ sum_of (four_powers u) (four_powers v)
four_powers-sum u v h k =
    (λ i. sum_of (sum_of u v) (sum_of (times_power-sum 1 u v h k i) (sum_of (times_power-sum 2 u v h k i) (times_power-sum 7 u v h k i))))
    ∙ ap (λ x. sum_of (sum_of u v) (sum_of (sum_of (times_power 1 u) (times_power 1 v)) x)) (sum_of-inner (times_power 2 u) (times_power 2 v) (times_power 7 u) (times_power 7 v))
    ∙ ap (sum_of (sum_of u v)) (sum_of-inner (times_power 1 u) (times_power 1 v) (sum_of (times_power 2 u) (times_power 7 u)) (sum_of (times_power 2 v) (times_power 7 v)))
    ∙ sum_of-inner u v (sum_of (times_power 1 u) (sum_of (times_power 2 u) (times_power 7 u))) (sum_of (times_power 1 v) (sum_of (times_power 2 v) (times_power 7 v)))

-- ---- where nothing falls out

half : (k n : ℕ) → n ≡ 2 * k → n < 2 ^ 128 → times_x reduction (block_bits n) ≡ block_bits k
half k n e fits =
    let even : n / 2 ≡ k = omega arith in
    sym (times_x-number n 0 fits (omega arith)) ∙ ap block_bits (xor_zero_r (n / 2) ∙ even)

module _ (q : ℕ) (fits : q * 2 ^ 7 < 2 ^ 128) where
  once : times_power 1 (block_bits (q * 2 ^ 7)) ≡ block_bits (q * 2 ^ 6)
  unfolding times_power
  once = half (q * 2 ^ 6) (q * 2 ^ 7) (omega arith) fits

  twice : times_power 2 (block_bits (q * 2 ^ 7)) ≡ block_bits (q * 2 ^ 5)
  unfolding times_power
  twice = ap (times_x reduction) once ∙ half (q * 2 ^ 5) (q * 2 ^ 6) (omega arith) (omega (arith, fits))

  seven_times : times_power 7 (block_bits (q * 2 ^ 7)) ≡ block_bits q
  unfolding times_power
  seven_times =
      let x = times_x reduction in
      ap (λ v. x (x (x (x (x v))))) twice
      ∙ ap (λ v. x (x (x (x v)))) (half (q * 2 ^ 4) (q * 2 ^ 5) (omega arith) (omega (arith, fits)))
      ∙ ap (λ v. x (x (x v))) (half (q * 2 ^ 3) (q * 2 ^ 4) (omega arith) (omega (arith, fits)))
      ∙ ap (λ v. x (x v)) (half (q * 2 ^ 2) (q * 2 ^ 3) (omega arith) (omega (arith, fits)))
      ∙ ap x (half (q * 2 ^ 1) (q * 2 ^ 2) (omega arith) (omega (arith, fits)))
      ∙ half q (q * 2 ^ 1) (omega arith) (omega (arith, fits))

  upper : block_bits (spread (q * 2 ^ 7)) ≡ four_powers (block_bits (q * 2 ^ 7))
  upper =
      let a : q * 2 ^ 7 / 2 ^ 1 ≡ q * 2 ^ 6 = omega arith in
      let b : q * 2 ^ 7 / 2 ^ 2 ≡ q * 2 ^ 5 = omega arith in
      let c : q * 2 ^ 7 / 2 ^ 7 ≡ q = omega arith in
      (λ i. block_bits (bit_xor (q * 2 ^ 7) (bit_xor (a i) (bit_xor (b i) (c i)))))
      ∙ block_bits-xor (q * 2 ^ 7) (bit_xor (q * 2 ^ 6) (bit_xor (q * 2 ^ 5) q))
      ∙ ap (sum_of (block_bits (q * 2 ^ 7))) (block_bits-xor (q * 2 ^ 6) (bit_xor (q * 2 ^ 5) q) ∙ ap (sum_of (block_bits (q * 2 ^ 6))) (block_bits-xor (q * 2 ^ 5) q))
      ∙ (λ i. sum_of (block_bits (q * 2 ^ 7)) (sum_of (sym once i) (sum_of (sym twice i) (sym seven_times i))))

-- ---- what falls out, octet by octet

abbrev same_bit : Bool → Bool → Bool
same_bit true b = b
same_bit false true = false
same_bit false false = true

is_same_bit : (a b : Bool) → same_bit a b ≡ true → a ≡ b
is_same_bit true b e = sym e
is_same_bit false true e = e
is_same_bit false false e = refl

abbrev same : List Bool → List Bool → Bool
same [] [] = true
same [] (b ∷ bs) = false
same (a ∷ us) [] = false
same (a ∷ us) (b ∷ bs) = same_bit a b && same us bs

false_is_no_list : (bs : List Bool) (cs : List Bool) → false ≡ true → bs ≡ cs
false_is_no_list bs cs e = ap (λ b. cond b cs bs) e

is_same : (us bs : List Bool) → same us bs ≡ true → us ≡ bs
is_same [] [] e = refl
is_same [] (b ∷ bs) e = false_is_no_list _ _ e
is_same (a ∷ us) [] e = false_is_no_list _ _ e
is_same (a ∷ us) (b ∷ bs) e =
    let parts = and_parts (same_bit a b) (same us bs) e in
    λ i. is_same_bit a b parts.0 i ∷ is_same us bs parts.1 i

lower : (t : ℕ) → t < 256 → block_bits (spread (bit_xor t (fallen t))) ≡ four_powers (block_bits t)
unfolding block_bits block_octets times_power reduction
lower t fits =
    is_same _ _ (at_octet (λ n. same (block_bits (spread (bit_xor n (fallen n)))) (four_powers (block_bits n))) refl t fits)

-- ---- together

whole : (z : ℕ) → z < 2 ^ 128 → block_bits (spread (bit_xor z (fallen z))) ≡ four_powers (block_bits z)
whole z fits =
    let q = z / 2 ^ 7 in
    let t = z % 2 ^ 7 in
    let split : bit_xor (q * 2 ^ 7) t ≡ z = xor_shifted q 7 t (omega arith) ∙ omega arith in
    let a : z * 2 ^ 127 % 2 ^ 128 ≡ t * 2 ^ 127 % 2 ^ 128 = omega arith in
    let b : z * 2 ^ 126 % 2 ^ 128 ≡ t * 2 ^ 126 % 2 ^ 128 = omega arith in
    let c : z * 2 ^ 121 % 2 ^ 128 ≡ t * 2 ^ 121 % 2 ^ 128 = omega arith in
    (λ i. block_bits (spread (bit_xor (sym split i) (bit_xor (a i) (bit_xor (b i) (c i))))))
    ∙ ap (λ n. block_bits (spread n)) (xor_assoc (q * 2 ^ 7) t (fallen t))
    ∙ ap block_bits (spread-xor (q * 2 ^ 7) (bit_xor t (fallen t)))
    ∙ block_bits-xor (spread (q * 2 ^ 7)) (spread (bit_xor t (fallen t)))
    ∙ (λ i. sum_of (upper q (omega arith) i) (lower t (omega arith) i))
    ∙ sym (four_powers-sum (block_bits (q * 2 ^ 7)) (block_bits t) (length-block_bits (q * 2 ^ 7)) (length-block_bits t))
    ∙ ap four_powers (sym (block_bits-xor (q * 2 ^ 7) t) ∙ ap block_bits split)

pub reduced_is : (low high : ℕ) → high < 2 ^ 128
    → block_bits (bit_xor low (spread (bit_xor high (fallen high)))) ≡ sum_of (block_bits low) (times_power 128 (block_bits high))
reduced_is low high fits =
    block_bits-xor low (spread (bit_xor high (fallen high)))
    ∙ ap (sum_of (block_bits low)) (whole high fits ∙ sym (folded (block_bits high) (length-block_bits high)))
