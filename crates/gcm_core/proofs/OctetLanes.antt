-- The bits of octets, lane by lane, and 32 octets moved on by one, which are times x ^ 8.
use Rattle.std.proofs.Common.{◌≡◌, ℕ, zero, suc, ◌+◌, ◌*◌, Bool, false, cond, List, [], ◌∷◌, ◌++◌, length, replicate, refl, sym, ap, ◌∙◌, arith, length-append}
use Rattle.std.proofs.lemmas.List.{append-nil}
use Rattle.std.proofs.lemmas.Simd.{length-replicate}
use Rattle.std.specs.Int.{w128, from_be_bytes}
use Rattle.aes_block.specs.Bits.{bits}
use Rattle.aes_block.proofs.Public.{All-from_AreOctets, AreOctets-from_Fits, IsVector}
use Rattle.gcm_core.specs.Blocks.{block_bits}
use Rattle.gcm_core.proofs.Octets.{block_octets-read}
use Rattle.aes_block.specs.Product.{sum_of, moved, last_bit, times_x}
use Rattle.gcm_core.specs.Ghash.{reduction}
use Rattle.gcm_core.specs.inside.Tables.{times_power}
use Rattle.gcm_core.proofs.Products.{bit_sum-false, sum_of-assoc}
use Rattle.gcm_core.proofs.Powers.{length-times_power, times_power-add, times_power-sum}
use Rattle.gcm_core.specs.inside.Rows.{first_octet, lanes_sum, value}
use Rattle.gcm_core.proofs.Folded.{sum_zeros, zero_behind}
use Rattle.gcm_core.proofs.ByRows.{length-first_octet, length-lanes_sum, length-sum, none, none_moved}

-- ---- a string that ends in zeros, moved on

last_end : (us : List Bool) (p : Bool) → last_bit p (us ++ (false ∷ [])) ≡ false
last_end [] p = refl
last_end (a ∷ us) p = last_end us a

moved_end : (us : List Bool) (p : Bool) → moved p (us ++ (false ∷ [])) ≡ p ∷ us
moved_end [] p = refl
moved_end (a ∷ us) p = ap (λ s. p ∷ s) (moved_end us a)

times_x-end : (us : List Bool) → times_x reduction (us ++ (false ∷ [])) ≡ false ∷ us
times_x-end us =
    let v = us ++ (false ∷ []) in
    ap (λ p. cond p (sum_of reduction (moved false v)) (moved false v)) (last_end us false) ∙ moved_end us false

one_more : (us : List Bool) (n : ℕ) → us ++ replicate (suc n) false ≡ (us ++ replicate n false) ++ (false ∷ [])
one_more [] zero = refl
one_more [] (suc n) = ap (λ s. false ∷ s) (one_more [] n)
one_more (a ∷ us) n = ap (λ s. a ∷ s) (one_more us n)

power_end : (n : ℕ) (us : List Bool) → times_power n (us ++ replicate n false) ≡ replicate n false ++ us
unfolding times_power
power_end zero us = append-nil us
power_end (suc n) us =
    ap (λ v. times_power n (times_x reduction v)) (one_more us n)
    ∙ ap (times_power n) (times_x-end (us ++ replicate n false))
    ∙ power_end n (false ∷ us)
    ∙ sym (zero_behind n us)

-- ---- the bits of octets, lane by lane

pub length-bits : (xs : List ℕ) → length (bits xs) ≡ 8 * length xs
length-bits [] = refl
length-bits (x ∷ xs) = omega (arith, length-bits xs)

-- an octet before others
octet_before : (a b c d e f g h : Bool) (us : List Bool) → length us ≡ 120
    → sum_of (a ∷ b ∷ c ∷ d ∷ e ∷ f ∷ g ∷ h ∷ replicate 120 false) (replicate 8 false ++ us) ≡ a ∷ b ∷ c ∷ d ∷ e ∷ f ∷ g ∷ h ∷ us
octet_before a b c d e f g h us l = λ i.
    bit_sum-false a i ∷ bit_sum-false b i ∷ bit_sum-false c i ∷ bit_sum-false d i ∷ bit_sum-false e i ∷ bit_sum-false f i ∷ bit_sum-false g i ∷ bit_sum-false h i
    ∷ sum_zeros 120 us l i

zeros_apart : (us : List Bool) (m k : ℕ) → k ≡ m + 8 → us ++ replicate k false ≡ (us ++ replicate m false) ++ replicate 8 false
zeros_apart (a ∷ us) m k e = ap (λ s. a ∷ s) (zeros_apart us m k e)
zeros_apart [] zero k e =
    let eight : k ≡ 8 = omega arith in
    ap (λ n. replicate n false) eight
zeros_apart [] (suc m) zero e = absurd (omega arith)
zeros_apart [] (suc m) (suc k) e = ap (λ s. false ∷ s) (zeros_apart [] m k (omega arith))

pub padded_bits : (xs : List ℕ) (m : ℕ) → length xs + m ≡ 16 → bits xs ++ replicate (8 * m) false ≡ lanes_sum first_octet xs
padded_bits [] m e =
    let is : 8 * m ≡ 128 = omega arith in
    ap (λ n. replicate n false) is
padded_bits (x ∷ xs) m e =
    let us = bits xs ++ replicate (8 * m) false in
    let more : 8 * suc m ≡ 8 * m + 8 = omega arith in
    let rest : lanes_sum first_octet xs ≡ us ++ replicate 8 false =
    sym (padded_bits xs (suc m) (omega arith)) ∙ zeros_apart (bits xs) (8 * m) (8 * suc m) more in
    let long : length us ≡ 120 = omega (arith, length-append (bits xs) (replicate (8 * m) false), length-bits xs, length-replicate (8 * m) false) in
    sym (octet_before _ _ _ _ _ _ _ _ us long)
    ∙ ap (sum_of (first_octet x)) (sym (power_end 8 us) ∙ ap (times_power 8) (sym rest))

pub vector_bits : (xs : List ℕ) → length xs ≡ 16 → bits xs ≡ lanes_sum first_octet xs
vector_bits xs l = sym (append-nil (bits xs)) ∙ padded_bits xs 0 (omega arith)

-- ---- lanes behind lanes

pub nothing_moved : (n : ℕ) → times_power n none ≡ none
unfolding times_power reduction
nothing_moved zero = refl
nothing_moved (suc n) = nothing_moved n

none_before : (v : List Bool) → length v ≡ 128 → sum_of none v ≡ v
none_before v l = sum_zeros 128 v l

pub none_behind : (v : List Bool) (n : ℕ) → length v ≡ n → sum_of v (replicate n false) ≡ v
none_behind [] n l = refl
none_behind (a ∷ v) zero l = absurd (omega arith)
none_behind (a ∷ v) (suc n) l = λ i. bit_sum-false a i ∷ none_behind v n (omega arith) i

pub length-lanes : (xs : List ℕ) → length (lanes_sum first_octet xs) ≡ 128
length-lanes xs = length-lanes_sum first_octet length-first_octet xs

behind_lanes : (xs ys : List ℕ) → lanes_sum first_octet (xs ++ ys) ≡ sum_of (lanes_sum first_octet xs) (times_power (8 * length xs) (lanes_sum first_octet ys))
unfolding times_power
behind_lanes [] ys = sym (none_before (lanes_sum first_octet ys) (length-lanes ys))
behind_lanes (x ∷ xs) ys =
    let a = lanes_sum first_octet xs in
    let b = lanes_sum first_octet ys in
    let n = 8 * length xs in
    let e : n + 8 ≡ 8 * suc (length xs) = omega arith in
    ap (λ s. sum_of (first_octet x) (times_power 8 s)) (behind_lanes xs ys)
    ∙ ap (sum_of (first_octet x)) (times_power-sum 8 a (times_power n b) (length-lanes xs) (length-times_power n b (length-lanes ys))
    ∙ ap (sum_of (times_power 8 a)) (times_power-add n 8 b ∙ ap (λ k. times_power k b) e))
    ∙ sym (sum_of-assoc (first_octet x) (times_power 8 a) (times_power (8 * suc (length xs)) b))

single : (l : ℕ) → lanes_sum first_octet (l ∷ []) ≡ first_octet l
single l = ap (sum_of (first_octet l)) none_moved ∙ none_behind (first_octet l) 128 (length-first_octet l)

pub value_moved : (ls hs : List ℕ) (l : ℕ) → length ls ≡ 15 → length hs ≡ 15
    → value (0 ∷ ls) (l ∷ hs) ≡ times_power 8 (value (ls ++ (l ∷ [])) (hs ++ (0 ∷ [])))
value_moved ls hs l long_l long_h =
    let a = lanes_sum first_octet ls in
    let b = lanes_sum first_octet hs in
    let c = first_octet l in
    let la = length-lanes ls in
    let lb = length-lanes hs in
    let lc = length-first_octet l in
    let p : (n : ℕ) (v : List Bool) → length v ≡ 128 → length (times_power n v) ≡ 128 = λ n v h. length-times_power n v h in
    let el : 8 * length ls ≡ 120 = omega arith in
    let eh : 8 * length hs ≡ 120 = omega arith in
    let low : lanes_sum first_octet (ls ++ (l ∷ [])) ≡ sum_of a (times_power 120 c) =
    behind_lanes ls (l ∷ []) ∙ (λ i. sum_of a (times_power (el i) (single l i))) in
    let high : lanes_sum first_octet (hs ++ (0 ∷ [])) ≡ b =
    behind_lanes hs (0 ∷ []) ∙ (λ i. sum_of b (times_power (eh i) (single 0 i)))
    ∙ ap (sum_of b) (nothing_moved 120) ∙ none_behind b 128 lb in
    let left : value (0 ∷ ls) (l ∷ hs) ≡ sum_of (times_power 8 a) (sum_of (times_power 128 c) (times_power 136 b)) =
    (λ i. sum_of (none_before (times_power 8 a) (p 8 a la) i) (times_power-sum 128 c (times_power 8 b) lc (p 8 b lb) i))
    ∙ ap (λ s. sum_of (times_power 8 a) (sum_of (times_power 128 c) s)) (times_power-add 8 128 b) in
    let right : times_power 8 (value (ls ++ (l ∷ [])) (hs ++ (0 ∷ []))) ≡ sum_of (times_power 8 a) (sum_of (times_power 128 c) (times_power 136 b)) =
    (λ i. times_power 8 (sum_of (low i) (times_power 128 (high i))))
    ∙ times_power-sum 8 (sum_of a (times_power 120 c)) (times_power 128 b) (length-sum a (times_power 120 c) la (p 120 c lc)) (p 128 b lb)
    ∙ (λ i. sum_of (times_power-sum 8 a (times_power 120 c) la (p 120 c lc) i) (times_power-add 128 8 b i))
    ∙ ap (λ s. sum_of (sum_of (times_power 8 a) s) (times_power 136 b)) (times_power-add 120 8 c)
    ∙ sum_of-assoc (times_power 8 a) (times_power 128 c) (times_power 136 b) in
    left ∙ sym right

-- ---- a vector as a number

pub number_bits : (v : List ℕ) → IsVector v → block_bits (from_be_bytes w128 v) ≡ lanes_sum first_octet v
unfolding block_bits
number_bits v is =
    ap bits (block_octets-read v is.0 (All-from_AreOctets v (AreOctets-from_Fits v is.1))) ∙ vector_bits v is.0
