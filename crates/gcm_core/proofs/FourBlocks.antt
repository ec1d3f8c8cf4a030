-- The hash after four blocks.
use Rattle.std.proofs.Common.{◌≡◌, ℕ, zero, suc, ◌*◌, ◌≤◌, Bool, List, [], ◌∷◌, length, take, drop, refl, sym, ap, ◌∙◌, arith, bit_xor}
use Rattle.std.proofs.lemmas.List.{drop-drop, length-drop, length-take-le}
use Rattle.std.specs.Simd.{first_chunks}
use lib.Lanes.{zip2}
use Rattle.aes_block.specs.Bits.{bits}
use Rattle.aes_block.specs.Product.{sum_of}
use Rattle.gcm_core.specs.Blocks.{block_bits, block_octets}
use Rattle.gcm_core.specs.Ghash.{ghash}
use Rattle.gcm_core.proofs.Products.{length-block_bits, sum_of-assoc}
use Rattle.gcm_core.proofs.ByRows.{length-sum}
use Rattle.gcm_core.proofs.BlockBits.{has_bit-xor}
use Rattle.gcm_core.proofs.OctetLanes.{length-bits}
use Rattle.gcm_core.specs.inside.Powers.{four_blocks, four_powers, four_products, power}
use Rattle.gcm_core.proofs.Associative.{by, by-by, by-sum, length-by}
use Rattle.gcm_core.proofs.OctetRows.{length-octets}

pub length-power : (h : List Bool) (n : ℕ) → length h ≡ 128 → length (power h n) ≡ 128
length-power h zero l = l
length-power h (suc n) l = length-by (power h n) h l

pub length-block : (a : List ℕ) → length a ≡ 16 → length (bits a) ≡ 128
length-block a e = length-bits a ∙ ap (λ n. 8 * n) e

-- a product with a power, times the hash key once more
once_more : (h v : List Bool) (n : ℕ) → length h ≡ 128 → by (by v (power h n)) h ≡ by v (power h (suc n))
once_more h v n l = by-by v (power h n) h (length-power h n l) l

pub four_at_once : (h y : List Bool) (a b c d : List ℕ) → length h ≡ 128 → length y ≡ 128
    → length a ≡ 16 → length b ≡ 16 → length c ≡ 16 → length d ≡ 16
    → ghash h y (four_blocks a b c d) ≡ four_products h y a b c d
four_at_once h y a b c d l ly la lb lc ld =
    let u = sum_of y (bits a) in
    let v = bits b in
    let w = bits c in
    let z = bits d in
    let p = λ (s : List Bool) (n : ℕ). by s (power h n) in
    let lp : (s : List Bool) (n : ℕ) → length (p s n) ≡ 128 = λ s n. length-by s (power h n) (length-power h n l) in
    let more = λ (s : List Bool) (n : ℕ). once_more h s n l in
    let s2 = λ (n : ℕ). sum_of (p u (suc n)) (p v n) in
    let l2 : (n : ℕ) → length (s2 n) ≡ 128 = λ n. length-sum (p u (suc n)) (p v n) (lp u (suc n)) (lp v n) in
    let s3 = λ (n : ℕ). sum_of (s2 (suc n)) (p w n) in
    let l3 : (n : ℕ) → length (s3 n) ≡ 128 = λ n. length-sum (s2 (suc n)) (p w n) (l2 (suc n)) (lp w n) in
    let two : by (sum_of (p u 0) v) h ≡ s2 0 =
    by-sum (p u 0) v h (lp u 0 ∙ sym (length-block b lb)) l ∙ ap (λ s. sum_of s (p v 0)) (more u 0) in
    let two_more : (n : ℕ) → by (s2 n) h ≡ s2 (suc n) =
    λ n. by-sum (p u (suc n)) (p v n) h (lp u (suc n) ∙ sym (lp v n)) l ∙ (λ i. sum_of (more u (suc n) i) (more v n i)) in
    let three : by (sum_of (s2 0) w) h ≡ s3 0 =
    by-sum (s2 0) w h (l2 0 ∙ sym (length-block c lc)) l ∙ ap (λ s. sum_of s (p w 0)) (two_more 0) in
    let four : by (sum_of (s3 0) z) h ≡ sum_of (s3 1) (p z 0) =
    by-sum (s3 0) z h (l3 0 ∙ sym (length-block d ld)) l
    ∙ ap (λ s. sum_of s (p z 0)) (by-sum (s2 1) (p w 0) h (l2 1 ∙ sym (lp w 0)) l ∙ (λ i. sum_of (two_more 1 i) (more w 0 i))) in
    ap (λ s. by (sum_of (by (sum_of s w) h) z) h) two
    ∙ ap (λ s. by (sum_of s z) h) three
    ∙ four
    ∙ sum_of-assoc (s2 2) (p w 1) (p z 0)
    ∙ sum_of-assoc (p u 3) (p v 2) (sum_of (p w 1) (p z 0))

-- ---- as the code has them

bits-sum : (xs ys : List ℕ) → length xs ≡ length ys → bits (zip2 bit_xor xs ys) ≡ sum_of (bits xs) (bits ys)
bits-sum [] [] e = refl
bits-sum [] (y ∷ ys) e = absurd (omega arith)
bits-sum (x ∷ xs) [] e = absurd (omega arith)
bits-sum (x ∷ xs) (y ∷ ys) e = λ i.
    has_bit-xor x y 7 i ∷ has_bit-xor x y 6 i ∷ has_bit-xor x y 5 i ∷ has_bit-xor x y 4 i
    ∷ has_bit-xor x y 3 i ∷ has_bit-xor x y 2 i ∷ has_bit-xor x y 1 i ∷ has_bit-xor x y 0 i ∷ bits-sum xs ys (omega arith) i

pub after_four_is : (h y r : ℕ) (four a b c d : List ℕ) → length four ≡ 64 → a ≡ zip2 bit_xor (block_octets y) (take 16 four)
    → b ≡ take 16 (drop 16 four) → c ≡ take 16 (drop 32 four) → d ≡ take 16 (drop 48 four)
    → block_bits r ≡ four_powers (block_bits h) a b c d
    → block_bits r ≡ ghash (block_bits h) (block_bits y) (first_chunks 16 4 four)
unfolding block_bits
after_four_is h y r four a b c d l ea eb ec ed is =
    let piece : (n : ℕ) → n ≤ 48 → length (take 16 (drop n four)) ≡ 16 =
    λ n le. length-take-le 16 (drop n four) (omega (arith, length-drop n four, l)) in
    let x = take 16 four in
    let lx : length x ≡ 16 = length-take-le 16 four (omega (arith, l)) in
    let front : bits a ≡ sum_of (block_bits y) (bits x) = ap bits ea ∙ bits-sum (block_octets y) x (length-octets y ∙ sym lx) in
    let k = block_bits h in
    let there : four_blocks x (take 16 (drop 16 four)) (take 16 (drop 32 four)) (take 16 (drop 48 four)) ≡ first_chunks 16 4 four =
    (λ i. four_blocks x (take 16 (drop 16 four)) (take 16 (sym (drop-drop 16 16 four) i)) (take 16 (sym (drop-drop 32 16 four) i)))
    ∙ ap (λ zs. four_blocks x (take 16 (drop 16 four)) (take 16 (drop 16 (drop 16 four))) (take 16 zs)) (sym (drop-drop 16 16 (drop 16 four))) in
    is
    ∙ (λ i. four_powers k a (eb i) (ec i) (ed i))
    ∙ ap (λ us. sum_of (by us (power k 3)) (sum_of (by (bits (take 16 (drop 16 four))) (power k 2)) (sum_of (by (bits (take 16 (drop 32 four))) (power k 1)) (by (bits (take 16 (drop 48 four))) k)))) front
    ∙ sym (four_at_once k (block_bits y) x (take 16 (drop 16 four)) (take 16 (drop 32 four)) (take 16 (drop 48 four)) (length-block_bits h) (length-block_bits y)
    lx (piece 16 (omega arith)) (piece 32 (omega arith)) (piece 48 (omega arith)))
    ∙ ap (ghash k (block_bits y)) there
