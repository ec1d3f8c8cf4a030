-- Products of octets as sums of numbers, which are quicker to compute than strings of bits, and the inverse by them.
use Rattle.std.proofs.Common.{◌≡◌, ℕ, zero, suc, ◌+◌, ◌*◌, ◌^◌, ◌<◌, ◌≤◌, Bool, true, false, List, [], ◌∷◌, length, refl, sym, ap, ◌∙◌, arith, bit_xor, cond, Some}
use Rattle.std.specs.Prelude.{◌==◌, unwrap_or}
use Rattle.std.specs.List.{find, range_with_len}
use Rattle.std.proofs.lemmas.Nat.{xor_block}
use Rattle.std.proofs.lemmas.Bool.{false≢true}
use Rattle.aes_block.specs.Octet.{inverse, octet_of, octets, terms, times}
use Rattle.aes_block.specs.Product.{product, sum_of, times_x}
use Rattle.aes_block.proofs.Doubled.{shifted, times_2, times_2-lt}
use Rattle.aes_block.proofs.EachOctet.{at_octet, equal_at_octet}

-- ---- sums of strings, as numbers

first_bits : (p q m n : ℕ) → p < 2 → q < 2 → bit_xor (p + 2 * m) (q + 2 * n) ≡ bit_xor p q + 2 * bit_xor m n
first_bits p q m n fp fq =
    let left : p + 2 * m ≡ m * 2 ^ 1 + p = omega arith in
    let right : q + 2 * n ≡ n * 2 ^ 1 + q = omega arith in
    let both = xor_block 1 m n p q fp fq in
    (λ i. bit_xor (left i) (right i)) ∙ omega (arith, both)

sum_of_two : (p q r m n a b s : ℕ) → p < 2 → q < 2 → bit_xor p q ≡ r → a ≡ p + 2 * m → b ≡ q + 2 * n
    → s ≡ r + 2 * bit_xor m n → s ≡ bit_xor a b
sum_of_two p q r m n a b s fp fq first is_a is_b is =
    is ∙ ap (λ x. x + 2 * bit_xor m n) (sym first) ∙ sym (first_bits p q m n fp fq)
    ∙ (λ i. bit_xor (sym is_a i) (sym is_b i))

octet_of-sum_of : (u v : List Bool) → length u ≡ length v → octet_of (sum_of u v) ≡ bit_xor (octet_of u) (octet_of v)
octet_of-sum_of [] [] e = refl
octet_of-sum_of [] (b ∷ vs) e = absurd (omega (arith, e))
octet_of-sum_of (a ∷ us) [] e = absurd (omega (arith, e))
octet_of-sum_of (true ∷ us) (true ∷ vs) e =
    ap (λ x. 2 * x) (octet_of-sum_of us vs (omega (arith, e)))
    ∙ sum_of_two 1 1 0 (octet_of us) (octet_of vs) (1 + 2 * octet_of us) (1 + 2 * octet_of vs) (2 * bit_xor (octet_of us) (octet_of vs))
    (omega arith) (omega arith) refl (omega arith) (omega arith) (omega arith)
octet_of-sum_of (true ∷ us) (false ∷ vs) e =
    ap (λ x. 1 + 2 * x) (octet_of-sum_of us vs (omega (arith, e)))
    ∙ sum_of_two 1 0 1 (octet_of us) (octet_of vs) (1 + 2 * octet_of us) (2 * octet_of vs) (1 + 2 * bit_xor (octet_of us) (octet_of vs))
    (omega arith) (omega arith) refl (omega arith) (omega arith) (omega arith)
octet_of-sum_of (false ∷ us) (true ∷ vs) e =
    ap (λ x. 1 + 2 * x) (octet_of-sum_of us vs (omega (arith, e)))
    ∙ sum_of_two 0 1 1 (octet_of us) (octet_of vs) (2 * octet_of us) (1 + 2 * octet_of vs) (1 + 2 * bit_xor (octet_of us) (octet_of vs))
    (omega arith) (omega arith) refl (omega arith) (omega arith) (omega arith)
octet_of-sum_of (false ∷ us) (false ∷ vs) e =
    ap (λ x. 2 * x) (octet_of-sum_of us vs (omega (arith, e)))
    ∙ sum_of_two 0 0 0 (octet_of us) (octet_of vs) (2 * octet_of us) (2 * octet_of vs) (2 * bit_xor (octet_of us) (octet_of vs))
    (omega arith) (omega arith) refl (omega arith) (omega arith) (omega arith)

length-sum_of : (u v : List Bool) → length u ≡ length v → length (sum_of u v) ≡ length u
length-sum_of [] v e = refl
length-sum_of (a ∷ us) [] e = absurd (omega (arith, e))
length-sum_of (a ∷ us) (b ∷ vs) e = ap suc (length-sum_of us vs (omega (arith, e)))

-- ---- the string of an octet

octet_of-terms : (n : ℕ) → n < 256 → octet_of (terms n) ≡ n
octet_of-terms = equal_at_octet (λ n. octet_of (terms n)) (λ n. n) refl

shifted-lt : (n : ℕ) → n < 256 → shifted n < 256
shifted-lt n fits = omega (arith, times_2 n fits, times_2-lt n fits)

-- whether two strings are equal
abbrev same : List Bool → List Bool → Bool
same [] [] = true
same [] (b ∷ vs) = false
same (a ∷ us) [] = false
same (true ∷ us) (true ∷ vs) = same us vs
same (true ∷ us) (false ∷ vs) = false
same (false ∷ us) (true ∷ vs) = false
same (false ∷ us) (false ∷ vs) = same us vs

same-true : (u v : List Bool) → same u v ≡ true → u ≡ v
same-true [] [] e = refl
same-true [] (b ∷ vs) e = absurd (false≢true e)
same-true (a ∷ us) [] e = absurd (false≢true e)
same-true (true ∷ us) (true ∷ vs) e = ap (λ xs. true ∷ xs) (same-true us vs e)
same-true (true ∷ us) (false ∷ vs) e = absurd (false≢true e)
same-true (false ∷ us) (true ∷ vs) e = absurd (false≢true e)
same-true (false ∷ us) (false ∷ vs) e = ap (λ xs. false ∷ xs) (same-true us vs e)

-- the string times x is that of the octet doubled by a shift
times_x-terms : (n : ℕ) → n < 256 → times_x (terms 0x1b) (terms n) ≡ terms (shifted n)
times_x-terms n fits =
    same-true _ _ (at_octet (λ k. same (times_x (terms 0x1b) (terms k)) (terms (shifted k))) refl n fits)

-- ---- products

-- the sum of b times x ^ i over the places i at which the string has a bit
unfoldable pub by_bits : List Bool → ℕ → ℕ
by_bits [] b = 0
by_bits (true ∷ us) b = bit_xor b (by_bits us (shifted b))
by_bits (false ∷ us) b = by_bits us (shifted b)

length-product : (us : List Bool) (b : ℕ) → b < 256 → length (product (terms 0x1b) us (terms b)) ≡ 8
length-product [] b fits = refl
length-product (true ∷ us) b fits =
    let rest = ap (λ v. length (product (terms 0x1b) us v)) (times_x-terms b fits) ∙ length-product us (shifted b) (shifted-lt b fits) in
    length-sum_of (terms b) _ (sym rest)
length-product (false ∷ us) b fits =
    ap (λ v. length (product (terms 0x1b) us v)) (times_x-terms b fits) ∙ length-product us (shifted b) (shifted-lt b fits)

octet_of-product : (us : List Bool) (b : ℕ) → b < 256 → octet_of (product (terms 0x1b) us (terms b)) ≡ by_bits us b
unfolding by_bits
octet_of-product [] b fits = refl
octet_of-product (true ∷ us) b fits =
    let next = shifted-lt b fits in
    ap (λ v. octet_of (sum_of (terms b) (product (terms 0x1b) us v))) (times_x-terms b fits)
    ∙ octet_of-sum_of (terms b) _ (sym (length-product us (shifted b) next))
    ∙ (λ i. bit_xor (octet_of-terms b fits i) (octet_of-product us (shifted b) next i))
octet_of-product (false ∷ us) b fits =
    ap (λ v. octet_of (product (terms 0x1b) us v)) (times_x-terms b fits) ∙ octet_of-product us (shifted b) (shifted-lt b fits)

pub times-by_bits : (a b : ℕ) → b < 256 → times a b ≡ by_bits (terms a) b
unfolding times
times-by_bits a b fits = octet_of-product (terms a) b fits

-- ---- the inverse

-- the octet whose product with one of this string is 1
unfoldable pub inverse_by_bits : List Bool → ℕ
inverse_by_bits us = unwrap_or (find (λ b. by_bits us b == 1) octets) 0

find_same : (p q : ℕ → Bool) (a n : ℕ) → a + n ≤ 256 → ((k : ℕ) → k < 256 → p k ≡ q k)
    → find p (range_with_len a n) ≡ find q (range_with_len a n)
find_same p q a zero le alike = refl
find_same p q a (suc n) le alike =
    λ i. cond (alike a (omega arith) i) (Some a) (find_same p q (a + 1) n (omega arith) alike i)

pub inverse-by_bits : (a : ℕ) → inverse a ≡ inverse_by_bits (terms a)
unfolding inverse inverse_by_bits
inverse-by_bits a =
    ap (λ o. unwrap_or o 0) (find_same (λ b. times a b == 1) (λ b. by_bits (terms a) b == 1) 0 256 (omega arith)
    (λ k fits. ap (λ x. x == 1) (times-by_bits a k fits)))
