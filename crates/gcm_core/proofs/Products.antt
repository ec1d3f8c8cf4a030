-- The product of strings of bits, and the steps by which numbers compute it.
use Rattle.std.proofs.Common.{◌≡◌, ℕ, zero, suc, ◌*◌, ◌/◌, ◌%◌, ◌^◌, ◌<◌, Bool, true, false, cond, eqb, List, [], ◌∷◌, length, map, refl, ap, ◌∙◌, arith, bit_xor}
use Rattle.std.proofs.lemmas.Nat.{xor_comm}
use Rattle.std.proofs.lemmas.Nat.Bits.{bit_at_lowest, bit_at-zero}
use Rattle.std.specs.Int.Bits.{xor_zero_r}
use Rattle.aes_block.specs.Bits.{bits, has_bit}
use Rattle.aes_block.specs.Product.{bit_sum, sum_of, moved, last_bit, times_x, product}
use Rattle.gcm_core.specs.Blocks.{block_octets, block_bits}
use Rattle.gcm_core.specs.Ghash.{next_hash, reduction}
use Rattle.gcm_core.proofs.BlockBits.{bits_high_first, bits-xor, bits-half, last_bit-bits, length-bits, bits-bytes}

pub block_bits-are : (n : ℕ) → block_bits n ≡ bits_high_first 128 n
unfolding block_bits block_octets
block_bits-are n = bits-bytes 16 n

-- `^` of two blocks is the sum of their strings
pub block_bits-xor : (a b : ℕ) → block_bits (bit_xor a b) ≡ sum_of (block_bits a) (block_bits b)
block_bits-xor a b = rw (block_bits-are (bit_xor a b), block_bits-are a, block_bits-are b) (bits-xor 128 a b)

-- R as a number
abbrev pub reduction_number : ℕ
reduction_number = 0xe1 * 2 ^ 120

pub reduction-is : reduction ≡ bits_high_first 128 reduction_number
unfolding reduction bits_high_first
reduction-is = refl

-- ---- sums

bit_sum-assoc : (a b c : Bool) → bit_sum (bit_sum a b) c ≡ bit_sum a (bit_sum b c)
bit_sum-assoc true true true = refl
bit_sum-assoc true true false = refl
bit_sum-assoc true false true = refl
bit_sum-assoc true false false = refl
bit_sum-assoc false b c = refl

pub sum_of-assoc : (us vs ws : List Bool) → sum_of (sum_of us vs) ws ≡ sum_of us (sum_of vs ws)
sum_of-assoc [] vs ws = refl
sum_of-assoc (a ∷ us) [] ws = refl
sum_of-assoc (a ∷ us) (b ∷ vs) [] = refl
sum_of-assoc (a ∷ us) (b ∷ vs) (c ∷ ws) = λ i. bit_sum-assoc a b c i ∷ sum_of-assoc us vs ws i

pub bit_sum-false : (a : Bool) → bit_sum a false ≡ a
bit_sum-false true = refl
bit_sum-false false = refl

-- a string of as many zeros adds nothing
pub sum_of-zeros : (us vs : List Bool) → length us ≡ length vs → sum_of us (map (λ _. false) vs) ≡ us
sum_of-zeros [] vs h = refl
sum_of-zeros (a ∷ us) [] h = absurd (omega arith)
sum_of-zeros (a ∷ us) (b ∷ vs) h = λ i. bit_sum-false a i ∷ sum_of-zeros us vs (omega arith) i

pub sum_of-from_zeros : (us vs : List Bool) → length us ≡ length vs → sum_of (map (λ _. false) us) vs ≡ vs
sum_of-from_zeros [] [] h = refl
sum_of-from_zeros [] (b ∷ vs) h = absurd (omega arith)
sum_of-from_zeros (a ∷ us) [] h = absurd (omega arith)
sum_of-from_zeros (a ∷ us) (b ∷ vs) h = λ i. b ∷ sum_of-from_zeros us vs (omega arith) i

-- ---- lengths

pub length-sum_of : (us vs : List Bool) → length us ≡ length vs → length (sum_of us vs) ≡ length us
length-sum_of [] vs h = refl
length-sum_of (a ∷ us) [] h = absurd (omega arith)
length-sum_of (a ∷ us) (b ∷ vs) h = ap suc (length-sum_of us vs (omega arith))

pub length-moved : (b : Bool) (vs : List Bool) → length (moved b vs) ≡ length vs
length-moved b [] = refl
length-moved b (c ∷ vs) = ap suc (length-moved c vs)

pub length-zeros : (vs : List Bool) → length (map (λ (b : Bool). false) vs) ≡ length vs
length-zeros [] = refl
length-zeros (b ∷ vs) = ap suc (length-zeros vs)

length_cond : (b : Bool) (us vs : List Bool) (n : ℕ) → length us ≡ n → length vs ≡ n → length (cond b us vs) ≡ n
length_cond true us vs n p q = p
length_cond false us vs n p q = q

pub length-times_x : (r v : List Bool) → length r ≡ length v → length (times_x r v) ≡ length v
length-times_x r v h =
    let plain : length (moved false v) ≡ length v = length-moved false v in
    length_cond (last_bit false v) (sum_of r (moved false v)) (moved false v) (length v)
    (length-sum_of r (moved false v) (omega arith) ∙ h) plain

pub length-product : (r us v : List Bool) → length r ≡ length v → length (product r us v) ≡ length v
length-product r [] v h = length-zeros v
length-product r (true ∷ us) v h =
    let next : length (times_x r v) ≡ length v = length-times_x r v h in
    let rest : length (product r us (times_x r v)) ≡ length (times_x r v) = length-product r us (times_x r v) (omega arith) in
    length-sum_of v (product r us (times_x r v)) (omega arith)
length-product r (false ∷ us) v h =
    let next : length (times_x r v) ≡ length v = length-times_x r v h in
    let rest : length (product r us (times_x r v)) ≡ length (times_x r v) = length-product r us (times_x r v) (omega arith) in
    omega arith

-- ---- numbers

-- times x: `v >> 1`, and r where the lowest bit is set
times_x-at : (w r v p : ℕ) → v < 2 ^ suc w → v % 2 ≡ p → p < 2
    → bits_high_first (suc w) (bit_xor (v / 2) (p * r)) ≡ times_x (bits_high_first (suc w) r) (bits_high_first (suc w) v)
times_x-at w r v p fits e h =
    let last : last_bit false (bits_high_first (suc w) v) ≡ eqb p 1 =
    last_bit-bits w v false ∙ ap (λ (n : ℕ). eqb n 1) (bit_at_lowest v ∙ e) in
    let half : moved false (bits_high_first (suc w) v) ≡ bits_high_first (suc w) (v / 2) = bits-half (suc w) v fits in
    rw (last, half) (cases p h)
  where
    cases : (p : ℕ) → p < 2 → bits_high_first (suc w) (bit_xor (v / 2) (p * r))
        ≡ cond (eqb p 1) (sum_of (bits_high_first (suc w) r) (bits_high_first (suc w) (v / 2))) (bits_high_first (suc w) (v / 2))
    cases zero h = ap (λ (n : ℕ). bits_high_first (suc w) n) (ap (λ (n : ℕ). bit_xor (v / 2) n) (omega arith) ∙ xor_zero_r (v / 2))
    cases (suc zero) h = ap (λ (n : ℕ). bits_high_first (suc w) n) (ap (λ (n : ℕ). bit_xor (v / 2) n) (omega arith) ∙ xor_comm (v / 2) r) ∙ bits-xor (suc w) r (v / 2)
    cases (suc (suc p)) h = absurd (omega arith)

pub times_x-number : (v k : ℕ) → v < 2 ^ 128 → k ≡ v % 2 * reduction_number
    → block_bits (bit_xor (v / 2) k) ≡ times_x reduction (block_bits v)
times_x-number v k fits e =
    rw (e, block_bits-are (bit_xor (v / 2) (v % 2 * reduction_number)), block_bits-are v, reduction-is)
    (times_x-at 127 reduction_number v (v % 2) fits refl (omega arith))

pub length-block_bits : (n : ℕ) → length (block_bits n) ≡ 128
length-block_bits n = ap length (block_bits-are n) ∙ length-bits 128 n

pub length-reduction : length reduction ≡ 128
unfolding reduction
length-reduction = refl

has_bit-zero : (k : ℕ) → has_bit 0 k ≡ false
has_bit-zero k = ap (λ (n : ℕ). eqb n 1) (bit_at-zero k)

bits-zero : (w : ℕ) (us : List Bool) → length us ≡ w → bits_high_first w 0 ≡ map (λ _. false) us
unfolding bits_high_first
bits-zero zero [] h = refl
bits-zero zero (b ∷ us) h = absurd (omega arith)
bits-zero (suc w) [] h = absurd (omega arith)
bits-zero (suc w) (b ∷ us) h = λ i. has_bit-zero w i ∷ bits-zero w us (omega arith) i

-- the block of zeros
pub block_bits-zero : (us : List Bool) → length us ≡ 128 → block_bits 0 ≡ map (λ _. false) us
block_bits-zero us h = block_bits-are 0 ∙ bits-zero 128 us h

-- one block more: its number is added, and the sum multiplied
pub next_hash-is : (h v n r : ℕ) (block : List ℕ) → block_bits r ≡ product reduction (block_bits (bit_xor v n)) (block_bits h)
    → block_octets n ≡ block → block_bits r ≡ next_hash (block_bits h) (block_bits v) block
unfolding block_bits
next_hash-is h v n r block e b =
    e ∙ ap (λ us. product reduction us (block_bits h)) (block_bits-xor v n ∙ ap (λ os. sum_of (block_bits v) (bits os)) b)
