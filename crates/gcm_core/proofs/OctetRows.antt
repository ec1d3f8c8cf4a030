-- The rows of a block: octets of its products with four bits, and with the other four.
use Rattle.std.proofs.Common.{◌≡◌, ℕ, zero, suc, ◌+◌, ◌/◌, ◌%◌, ◌^◌, ◌<◌, Bool, false, eqb, List, [], ◌∷◌, ◌++◌, length, map, replicate, get_or, slice_index, refl, sym, ap, ◌∙◌, arith, bit_and, bit_xor}
use Rattle.std.proofs.lemmas.List.{get_or-map}
use Rattle.std.proofs.lemmas.Simd.{get_or-zip2, length-zip2}
use lib.Lanes.{zip2}
use Rattle.aes_block.specs.Bits.{has_bit, octet_bits}
use Rattle.aes_block.specs.Product.{product, sum_of}
use Rattle.aes_block.proofs.Public.{equal_at_octet}
use Rattle.gcm_core.specs.Blocks.{block_bits, block_octets}
use Rattle.gcm_core.specs.Ghash.{four_places, reduction}
use Rattle.gcm_core.specs.inside.Tables.{AreProducts, times_power}
use Rattle.gcm_core.proofs.Octets.{length-bytes}
use Rattle.gcm_core.proofs.Products.{length-block_bits}
use Rattle.gcm_core.proofs.Powers.{length-times_power, product-append, product-padded}
use Rattle.aes_block.specs.LookUp.{entry_at}
use Rattle.aes_block.specs.declared.look_ups.Row.{Row}
use Rattle.gcm_core.specs.inside.Rows.{first_octet, lanes_in, lanes_sum, rows_in, rows_of_octet}
use Rattle.gcm_core.proofs.OctetLanes.{vector_bits}
use Rattle.gcm_core.proofs.Moved.{lanes-xor}
use Rattle.gcm_core.specs.inside.Powers.{AreRows}

-- ---- look-ups at four bits

entry_low : (t : List ℕ) (n : ℕ) → n < 16 → entry_at t n ≡ slice_index t n
entry_low t zero h = refl
entry_low t (suc zero) h = refl
entry_low t (suc (suc zero)) h = refl
entry_low t (suc (suc (suc zero))) h = refl
entry_low t (suc (suc (suc (suc zero)))) h = refl
entry_low t (suc (suc (suc (suc (suc zero))))) h = refl
entry_low t (suc (suc (suc (suc (suc (suc zero)))))) h = refl
entry_low t (suc (suc (suc (suc (suc (suc (suc zero))))))) h = refl
entry_low t (suc (suc (suc (suc (suc (suc (suc (suc zero)))))))) h = refl
entry_low t (suc (suc (suc (suc (suc (suc (suc (suc (suc zero))))))))) h = refl
entry_low t (suc (suc (suc (suc (suc (suc (suc (suc (suc (suc zero)))))))))) h = refl
entry_low t (suc (suc (suc (suc (suc (suc (suc (suc (suc (suc (suc zero))))))))))) h = refl
entry_low t (suc (suc (suc (suc (suc (suc (suc (suc (suc (suc (suc (suc zero)))))))))))) h = refl
entry_low t (suc (suc (suc (suc (suc (suc (suc (suc (suc (suc (suc (suc (suc zero))))))))))))) h = refl
entry_low t (suc (suc (suc (suc (suc (suc (suc (suc (suc (suc (suc (suc (suc (suc zero)))))))))))))) h = refl
entry_low t (suc (suc (suc (suc (suc (suc (suc (suc (suc (suc (suc (suc (suc (suc (suc zero))))))))))))))) h = refl
entry_low t (suc (suc (suc (suc (suc (suc (suc (suc (suc (suc (suc (suc (suc (suc (suc (suc n)))))))))))))))) h = absurd (omega arith)

last_four : (b : ℕ) → b < 256 → bit_and b 15 ≡ b % 16
last_four = equal_at_octet (λ n. bit_and n 15) (λ n. n % 16) refl

-- ---- rows as the lanes of a list

as_lanes : (rows : ℕ → ℕ → ℕ) (b : ℕ) (xs : List ℕ) (o : ℕ) → ((k : ℕ) → k < length xs → rows (o + k) b ≡ get_or xs k 0)
    → rows_of_octet rows (length xs) o b ≡ lanes_sum first_octet xs
as_lanes rows b [] o h = refl
as_lanes rows b (x ∷ xs) o h =
    let here : o + 0 ≡ o = omega arith in
    let first : rows o b ≡ x = ap (λ n. rows n b) (sym here) ∙ h 0 (omega arith) in
    (λ i. sum_of (first_octet (first i)) (times_power 8 (as_lanes rows b xs (suc o) (λ k lt.
    let e : suc o + k ≡ o + suc k = omega arith in
    ap (λ n. rows n b) e ∙ h (suc k) (omega arith)) i)))

pub length-octets : (n : ℕ) → length (block_octets n) ≡ 16
unfolding block_octets
length-octets n = length-bytes 16 n

octets_bits : (n : ℕ) → lanes_sum first_octet (block_octets n) ≡ block_bits n
unfolding block_bits
octets_bits n = sym (vector_bits (block_octets n) (length-octets n))

-- ---- a product with an octet, by its halves

same : (m n : ℕ) → m ≡ n → eqb m 1 ≡ eqb n 1
same m n e = ap (λ k. eqb k 1) e

high_bits : (b : ℕ) → four_places (b / 16) ≡ (has_bit b 7 ∷ has_bit b 6 ∷ has_bit b 5 ∷ has_bit b 4 ∷ []) ++ replicate 124 false
high_bits b =
    let p : b / 16 / 2 ^ 3 % 2 ≡ b / 2 ^ 7 % 2 = omega arith in
    let q : b / 16 / 2 ^ 2 % 2 ≡ b / 2 ^ 6 % 2 = omega arith in
    let r : b / 16 / 2 ^ 1 % 2 ≡ b / 2 ^ 5 % 2 = omega arith in
    let s : b / 16 / 2 ^ 0 % 2 ≡ b / 2 ^ 4 % 2 = omega arith in
    λ i. eqb (p i) 1 ∷ eqb (q i) 1 ∷ eqb (r i) 1 ∷ eqb (s i) 1 ∷ replicate 124 false

low_bits : (b : ℕ) → four_places (b % 16) ≡ (has_bit b 3 ∷ has_bit b 2 ∷ has_bit b 1 ∷ has_bit b 0 ∷ []) ++ replicate 124 false
low_bits b =
    let p : b % 16 / 2 ^ 3 % 2 ≡ b / 2 ^ 3 % 2 = omega arith in
    let q : b % 16 / 2 ^ 2 % 2 ≡ b / 2 ^ 2 % 2 = omega arith in
    let r : b % 16 / 2 ^ 1 % 2 ≡ b / 2 ^ 1 % 2 = omega arith in
    let s : b % 16 / 2 ^ 0 % 2 ≡ b / 2 ^ 0 % 2 = omega arith in
    λ i. eqb (p i) 1 ∷ eqb (q i) 1 ∷ eqb (r i) 1 ∷ eqb (s i) 1 ∷ replicate 124 false

halves : (b : ℕ) (v : List Bool) → length v ≡ 128
    → sum_of (product reduction (four_places (b / 16)) v) (product reduction (four_places (b % 16)) (times_power 4 v)) ≡ product reduction (octet_bits b) v
halves b v h =
    let us : List Bool = has_bit b 7 ∷ has_bit b 6 ∷ has_bit b 5 ∷ has_bit b 4 ∷ [] in
    let vs : List Bool = has_bit b 3 ∷ has_bit b 2 ∷ has_bit b 1 ∷ has_bit b 0 ∷ [] in
    let w = times_power 4 v in
    (λ i. sum_of (product reduction (high_bits b i) v) (product reduction (low_bits b i) w))
    ∙ (λ i. sum_of (product-padded us v 124 h i) (product-padded vs w 124 (length-times_power 4 v h) i))
    ∙ sym (product-append us vs v h)

-- ---- together

plain : (k : ℕ) → 0 + k ≡ k
plain k = omega arith

module _ (h : ℕ) (p q : List ℕ) (first last : List Row) (lp : length p ≡ 16) (lq : length q ≡ 16)
    (is_p : (o : ℕ) → o < 16 → lanes_in first o ≡ map (λ b. slice_index (block_octets b) o) p)
    (is_q : (o : ℕ) → o < 16 → lanes_in last o ≡ map (λ b. slice_index (block_octets b) o) q) where
  entry : (b o : ℕ) → b < 256 → o < 16
      → rows_in first last o b ≡ bit_xor (get_or (block_octets (slice_index p (b / 16))) o 0) (get_or (block_octets (slice_index q (b % 16))) o 0)
  entry b o fits lt =
      let n : b / 16 < 16 = omega arith in
      let m : b % 16 < 16 = omega arith in
      let g = λ (x : ℕ). slice_index (block_octets x) o in
      (λ i. bit_xor (entry_low (lanes_in first o) (b / 16) n i) (entry_at (lanes_in last o) (last_four b fits i)))
      ∙ (λ i. bit_xor (slice_index (is_p o lt i) (b / 16)) (entry_low (lanes_in last o) (b % 16) m i))
      ∙ (λ i. bit_xor (get_or-map g p (b / 16) 0 0 (omega arith) i) (slice_index (is_q o lt i) (b % 16)))
      ∙ ap (bit_xor (g (slice_index p (b / 16)))) (get_or-map g q (b % 16) 0 0 (omega arith))

  pub rows_are : AreProducts (block_bits h) p → AreProducts (times_power 4 (block_bits h)) q → AreRows (block_bits h) (rows_in first last)
  unfolding AreProducts
  rows_are ep eq b fits =
      let x = block_octets (slice_index p (b / 16)) in
      let y = block_octets (slice_index q (b % 16)) in
      let lx : length x ≡ 16 = length-octets (slice_index p (b / 16)) in
      let ly : length y ≡ 16 = length-octets (slice_index q (b % 16)) in
      let lz : length (zip2 bit_xor x y) ≡ 16 = length-zip2 bit_xor x y (lx ∙ sym ly) ∙ lx in
      (λ i. rows_of_octet (rows_in first last) (sym lz i) 0 b)
      ∙ as_lanes (rows_in first last) b (zip2 bit_xor x y) 0 (λ k lt. ap (λ n. rows_in first last n b) (plain k) ∙ entry b k fits (omega (arith, lz)) ∙ sym (get_or-zip2 bit_xor x y k 0 0 0 (omega (arith, lx, lz)) (omega (arith, ly, lz))))
      ∙ lanes-xor x y (lx ∙ sym ly)
      ∙ (λ i. sum_of (octets_bits (slice_index p (b / 16)) i) (octets_bits (slice_index q (b % 16)) i))
      ∙ (λ i. sum_of (ep (b / 16) (omega arith) i) (eq (b % 16) (omega arith) i))
      ∙ halves b (block_bits h) (length-block_bits h)
