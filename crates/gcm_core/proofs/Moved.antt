-- 32 octets moved on by one, as the code does it.
use Rattle.std.proofs.Common.{◌≡◌, ℕ, zero, suc, false, List, [], ◌∷◌, ◌++◌, length, map, take, drop, get_or, replicate, refl, sym, ap, ◌∙◌, arith, bit_xor}
use lib.Lanes.{pick_l, zip2}
use Rattle.aes_block.specs.Product.{sum_of}
use Rattle.aes_block.proofs.Public.{written_out}
use Rattle.gcm_core.specs.Ghash.{reduction}
use Rattle.gcm_core.specs.inside.Tables.{times_power}
use Rattle.gcm_core.proofs.BlockBits.{has_bit-xor}
use Rattle.gcm_core.proofs.Powers.{sum_of-inner, times_power-sum}
use Rattle.gcm_core.specs.inside.Rows.{first_octet, lanes_sum, value}
use Rattle.gcm_core.proofs.ByRows.{none, none_twice}
use Rattle.gcm_core.proofs.OctetLanes.{length-lanes, value_moved}

-- ---- sums of octets

first_octet-xor : (a b : ℕ) → first_octet (bit_xor a b) ≡ sum_of (first_octet a) (first_octet b)
first_octet-xor a b = λ i.
    has_bit-xor a b 7 i ∷ has_bit-xor a b 6 i ∷ has_bit-xor a b 5 i ∷ has_bit-xor a b 4 i
    ∷ has_bit-xor a b 3 i ∷ has_bit-xor a b 2 i ∷ has_bit-xor a b 1 i ∷ has_bit-xor a b 0 i ∷ replicate 120 false

pub lanes-xor : (xs ys : List ℕ) → length xs ≡ length ys → lanes_sum first_octet (zip2 bit_xor xs ys) ≡ sum_of (lanes_sum first_octet xs) (lanes_sum first_octet ys)
lanes-xor [] [] e = sym none_twice
lanes-xor [] (y ∷ ys) e = absurd (omega arith)
lanes-xor (x ∷ xs) [] e = absurd (omega arith)
lanes-xor (x ∷ xs) (y ∷ ys) e =
    let a = lanes_sum first_octet xs in
    let b = lanes_sum first_octet ys in
    (λ i. sum_of (first_octet-xor x y i) (times_power 8 (lanes-xor xs ys (omega arith) i)))
    ∙ ap (sum_of (sum_of (first_octet x) (first_octet y))) (times_power-sum 8 a b (length-lanes xs) (length-lanes ys))
    ∙ sum_of-inner (first_octet x) (first_octet y) (times_power 8 a) (times_power 8 b)

pub lanes-map : (g : ℕ → ℕ) (xs : List ℕ) → lanes_sum first_octet (map g xs) ≡ lanes_sum (λ x. first_octet (g x)) xs
lanes-map g [] = refl
lanes-map g (x ∷ xs) = ap (λ s. sum_of (first_octet (g x)) (times_power 8 s)) (lanes-map g xs)

-- ---- 32 octets moved on by one

abbrev ks : List ℕ
ks = 15 ∷ 16 ∷ 17 ∷ 18 ∷ 19 ∷ 20 ∷ 21 ∷ 22 ∷ 23 ∷ 24 ∷ 25 ∷ 26 ∷ 27 ∷ 28 ∷ 29 ∷ 30 ∷ []

pub moved_low_is : (low : List ℕ) → length low ≡ 16 → pick_l 0 (replicate 16 0 ++ low) ks ≡ 0 ∷ take 15 low
moved_low_is low l =
    (λ i. pick_l 0 (replicate 16 0 ++ sym (written_out low l) i) ks) ∙ (λ i. 0 ∷ take 15 (written_out low l i))

pub moved_high_is : (low high : List ℕ) → length low ≡ 16 → length high ≡ 16 → pick_l 0 (low ++ high) ks ≡ drop 15 low ++ take 15 high
moved_high_is low high l h =
    (λ i. pick_l 0 (sym (written_out low l) i ++ sym (written_out high h) i) ks)
    ∙ (λ i. drop 15 (written_out low l i) ++ take 15 (written_out high h i))

last_apart : (xs : List ℕ) → length xs ≡ 16 → take 15 xs ++ (get_or xs 15 0 ∷ []) ≡ xs
last_apart xs l = (λ i. take 15 (sym (written_out xs l) i) ++ (get_or xs 15 0 ∷ [])) ∙ written_out xs l

pub drop_last : (xs : List ℕ) → length xs ≡ 16 → drop 15 xs ≡ get_or xs 15 0 ∷ []
drop_last xs l = ap (drop 15) (sym (written_out xs l))

pub take_long : (xs : List ℕ) → length xs ≡ 16 → length (take 15 xs) ≡ 15
take_long xs l = ap (λ v. length (take 15 v)) (sym (written_out xs l))

pub moved_value : (low high : List ℕ) → length low ≡ 16 → length high ≡ 16 → get_or high 15 0 ≡ 0
    → value (0 ∷ take 15 low) (drop 15 low ++ take 15 high) ≡ times_power 8 (value low high)
moved_value low high l h z =
    (λ i. value (0 ∷ take 15 low) (drop_last low l i ++ take 15 high))
    ∙ value_moved (take 15 low) (take 15 high) (get_or low 15 0) (take_long low l) (take_long high h)
    ∙ (λ i. times_power 8 (value (last_apart low l i) (take 15 high ++ (sym z i ∷ []))))
    ∙ ap (λ v. times_power 8 (value low v)) (last_apart high h)

-- ---- nothing yet

pub no_octet_of : (n k : ℕ) → ◌≡◌ {A = ℕ} (get_or (replicate n 0) k 0) 0
no_octet_of zero k = refl
no_octet_of (suc n) zero = refl
no_octet_of (suc n) (suc k) = no_octet_of n k

pub no_lanes : lanes_sum first_octet (replicate 16 0) ≡ none
unfolding times_power reduction
no_lanes = refl
