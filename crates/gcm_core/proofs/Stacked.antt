-- Rows of vectors, each an octet further than the one before it.
use Rattle.std.proofs.Common.{◌≡◌, ℕ, zero, suc, ◌+◌, ◌-◌, ◌<◌, ◌≤◌, Bool, List, [], ◌∷◌, ◌++◌, length, map, take, drop, get_or, replicate, refl, sym, ap, ◌∙◌, arith, bit_xor}
use Rattle.std.proofs.lemmas.List.{length-map}
use Rattle.std.proofs.lemmas.Simd.{length-zip2}
use lib.Lanes.{zip2}
use Rattle.aes_block.specs.Product.{sum_of}
use Rattle.gcm_core.specs.inside.Tables.{times_power}
use Rattle.gcm_core.proofs.Products.{sum_of-assoc}
use Rattle.gcm_core.proofs.Powers.{length-times_power, sum_of-comm, sum_of-inner, times_power-sum}
use Rattle.gcm_core.specs.inside.Rows.{first_octet, lanes_sum, rows_of_block, value}
use Rattle.gcm_core.proofs.ByRows.{length-sum, none, none_moved, none_twice}
use Rattle.gcm_core.proofs.OctetLanes.{length-lanes, nothing_moved}
use Rattle.gcm_core.proofs.Moved.{drop_last, lanes-map, lanes-xor, moved_value, no_lanes, no_octet_of, take_long}
use Rattle.gcm_core.specs.inside.Powers.{rows_sum}

-- k rows from row o on
abbrev pub stack : (ℕ → List ℕ) → ℕ → ℕ → List Bool
stack v zero o = none
stack v (suc k) o = sum_of (lanes_sum first_octet (v o)) (times_power 8 (stack v k (suc o)))

pub length-stack : (v : ℕ → List ℕ) (k o : ℕ) → length (stack v k o) ≡ 128
length-stack v zero o = refl
length-stack v (suc k) o =
    length-sum (lanes_sum first_octet (v o)) (times_power 8 (stack v k (suc o))) (length-lanes (v o)) (length-times_power 8 (stack v k (suc o)) (length-stack v k (suc o)))

-- rows of 16 octets
abbrev pub AreVectors : (ℕ → List ℕ) → Type 0
AreVectors v = (o : ℕ) → length (v o) ≡ 16

pub stack-sum : (v w : ℕ → List ℕ) → AreVectors v → AreVectors w → (k o : ℕ) → stack (λ n. zip2 bit_xor (v n) (w n)) k o ≡ sum_of (stack v k o) (stack w k o)
stack-sum v w lv lw zero o = sym none_twice
stack-sum v w lv lw (suc k) o =
    let a = stack v k (suc o) in
    let b = stack w k (suc o) in
    (λ i. sum_of (lanes-xor (v o) (w o) (lv o ∙ sym (lw o)) i) (times_power 8 (stack-sum v w lv lw k (suc o) i)))
    ∙ ap (sum_of (sum_of (lanes_sum first_octet (v o)) (lanes_sum first_octet (w o)))) (times_power-sum 8 a b (length-stack v k (suc o)) (length-stack w k (suc o)))
    ∙ sum_of-inner (lanes_sum first_octet (v o)) (lanes_sum first_octet (w o)) (times_power 8 a) (times_power 8 b)

pub stack-rows : (rows : ℕ → ℕ → ℕ) (xs : List ℕ) (k o : ℕ) → stack (λ n. map (rows n) xs) k o ≡ rows_of_block rows k o xs
stack-rows rows xs zero o = refl
stack-rows rows xs (suc k) o = λ i. sum_of (lanes-map (rows o) xs i) (times_power 8 (stack-rows rows xs k (suc o) i))

-- ---- after so many rows

pub record HasStack (v : ℕ → List ℕ) (i : ℕ) (low high : List ℕ) : Type 0 where
  pub is : value low high ≡ stack v (suc i) (15 - i)
  pub none_yet : (k : ℕ) → i ≤ k → get_or high k 0 ≡ 0

pub first_row : (v : ℕ → List ℕ) (low : List ℕ) → low ≡ v 15 → HasStack v 0 low (replicate 16 0)
first_row v low e =
    record {
      is = (λ i. sum_of (lanes_sum first_octet (e i)) (times_power 128 (no_lanes i)))
          ∙ ap (sum_of (lanes_sum first_octet (v 15))) (nothing_moved 128 ∙ sym none_moved);
      none_yet = λ k le. no_octet_of 16 k;
    }

within : (hs : List ℕ) (k n : ℕ) → get_or hs k 0 ≡ 0 → get_or (take n hs) k 0 ≡ 0
within [] k zero z = refl
within [] k (suc n) z = refl
within (x ∷ hs) k zero z = refl
within (x ∷ hs) zero (suc n) z = z
within (x ∷ hs) (suc k) (suc n) z = within hs k n z

pub row_more : (v : ℕ → List ℕ) → AreVectors v → (i : ℕ) → i < 15 → {low high next_low next_high add : List ℕ} → length low ≡ 16 → length high ≡ 16
    → HasStack v i low high → next_high ≡ drop 15 low ++ take 15 high → add ≡ v (14 - i) → next_low ≡ 0 ∷ take 15 low
    → HasStack v (i + 1) (zip2 bit_xor next_low add) next_high
row_more v lv i lt {low} {high} l h has eh ea el =
    let at : suc (14 - i) ≡ 15 - i = omega arith in
    let next : 15 - (i + 1) ≡ 14 - i = omega arith in
    let count : suc i ≡ i + 1 = omega arith in
    let w = v (14 - i) in
    let a = lanes_sum first_octet (0 ∷ take 15 low) in
    let b = lanes_sum first_octet w in
    let c = times_power 128 (lanes_sum first_octet (drop 15 low ++ take 15 high)) in
    record {
      is = (λ j. value (zip2 bit_xor (el j) (ea j)) (eh j))
          ∙ ap (λ s. sum_of s c) (lanes-xor (0 ∷ take 15 low) w (omega (arith, take_long low l, lv (14 - i))) ∙ sum_of-comm a b)
          ∙ sum_of-assoc b a c
          ∙ ap (sum_of b) (moved_value low high l h (has.none_yet 15 (omega arith)) ∙ ap (times_power 8) has.is)
          ∙ (λ j. sum_of b (times_power 8 (stack v (suc i) (sym at j))))
          ∙ (λ j. stack v (suc (count j)) (sym next j));
      none_yet = λ k le. ap (λ xs. get_or xs k 0) (eh ∙ ap (λ xs. xs ++ take 15 high) (drop_last low l)) ∙ later k le;
    }
  where
    later : (k : ℕ) → i + 1 ≤ k → get_or (get_or low 15 0 ∷ take 15 high) k 0 ≡ 0
    later zero le = absurd (omega arith)
    later (suc k) le = within high k 15 (has.none_yet k (omega arith))

-- ---- the rows of four tables

module _ (p q r s : ℕ → ℕ → ℕ) (a b c d : List ℕ) (la : length a ≡ 16) (lb : length b ≡ 16) (lc : length c ≡ 16) (ld : length d ≡ 16) where
  long : (f : ℕ → ℕ → ℕ) (xs : List ℕ) → length xs ≡ 16 → AreVectors (λ o. map (f o) xs)
  long f xs l o = length-map xs (f o) ∙ l

  both : (v w : ℕ → List ℕ) → AreVectors v → AreVectors w → AreVectors (λ o. zip2 bit_xor (v o) (w o))
  both v w lv lw o = length-zip2 bit_xor (v o) (w o) (lv o ∙ sym (lw o)) ∙ lv o

  pub sum_long : AreVectors (rows_sum p q r s a b c d)
  sum_long =
      both (λ o. map (p o) a) (λ o. zip2 bit_xor (map (q o) b) (zip2 bit_xor (map (r o) c) (map (s o) d))) (long p a la)
      (both (λ o. map (q o) b) (λ o. zip2 bit_xor (map (r o) c) (map (s o) d)) (long q b lb)
      (both (λ o. map (r o) c) (λ o. map (s o) d) (long r c lc) (long s d ld)))

  pub four_stacks : (k o : ℕ) → stack (rows_sum p q r s a b c d) k o
      ≡ sum_of (rows_of_block p k o a) (sum_of (rows_of_block q k o b) (sum_of (rows_of_block r k o c) (rows_of_block s k o d)))
  four_stacks k o =
      let va = λ (n : ℕ). map (p n) a in
      let vb = λ (n : ℕ). map (q n) b in
      let vc = λ (n : ℕ). map (r n) c in
      let vd = λ (n : ℕ). map (s n) d in
      let vcd = λ (n : ℕ). zip2 bit_xor (vc n) (vd n) in
      let vbcd = λ (n : ℕ). zip2 bit_xor (vb n) (vcd n) in
      let lcd = both vc vd (long r c lc) (long s d ld) in
      let lbcd = both vb vcd (long q b lb) lcd in
      stack-sum va vbcd (long p a la) lbcd k o
      ∙ ap (sum_of (stack va k o)) (stack-sum vb vcd (long q b lb) lcd k o ∙ ap (sum_of (stack vb k o)) (stack-sum vc vd (long r c lc) (long s d ld) k o))
      ∙ (λ i. sum_of (stack-rows p a k o i) (sum_of (stack-rows q b k o i) (sum_of (stack-rows r c k o i) (stack-rows s d k o i))))
