-- Sums and products of strings of bits, and powers of x.
use Rattle.std.proofs.Common.{◌≡◌, ℕ, zero, suc, ◌+◌, Bool, true, false, cond, List, [], ◌∷◌, ◌++◌, length, map, replicate, zero-add, refl, sym, ap, ◌∙◌, arith}
use Rattle.aes_block.specs.Product.{bit_sum, sum_of, moved, last_bit, times_x, product}
use Rattle.gcm_core.specs.Ghash.{reduction}
use Rattle.gcm_core.specs.inside.Tables.{times_power}
use Rattle.gcm_core.proofs.Products.{sum_of-assoc, sum_of-zeros, sum_of-from_zeros, length-sum_of, length-moved, length-times_x, length-product, length-reduction}

-- ---- sums

bit_sum-comm : (a b : Bool) → bit_sum a b ≡ bit_sum b a
bit_sum-comm true true = refl
bit_sum-comm true false = refl
bit_sum-comm false true = refl
bit_sum-comm false false = refl

pub sum_of-comm : (us vs : List Bool) → sum_of us vs ≡ sum_of vs us
sum_of-comm [] [] = refl
sum_of-comm [] (b ∷ vs) = refl
sum_of-comm (a ∷ us) [] = refl
sum_of-comm (a ∷ us) (b ∷ vs) = λ i. bit_sum-comm a b i ∷ sum_of-comm us vs i

-- the inner two of four change places
pub sum_of-inner : (a b c d : List Bool) → sum_of (sum_of a b) (sum_of c d) ≡ sum_of (sum_of a c) (sum_of b d)
sum_of-inner a b c d =
    sum_of-assoc a b (sum_of c d)
    ∙ ap (sum_of a) (sym (sum_of-assoc b c d) ∙ ap (λ s. sum_of s d) (sum_of-comm b c) ∙ sum_of-assoc c b d)
    ∙ sym (sum_of-assoc a c (sum_of b d))

bit_sum-self : (a : Bool) → bit_sum a a ≡ false
bit_sum-self true = refl
bit_sum-self false = refl

sum_of-self : (us : List Bool) → sum_of us us ≡ map (λ _. false) us
sum_of-self [] = refl
sum_of-self (a ∷ us) = λ i. bit_sum-self a i ∷ sum_of-self us i

-- strings of zeros of one length
pub zeros_same : (us vs : List Bool) → length us ≡ length vs → map (λ (b : Bool). false) us ≡ map (λ (b : Bool). false) vs
zeros_same [] [] h = refl
zeros_same [] (b ∷ vs) h = absurd (omega arith)
zeros_same (a ∷ us) [] h = absurd (omega arith)
zeros_same (a ∷ us) (b ∷ vs) h = ap (λ s. false ∷ s) (zeros_same us vs (omega arith))

-- what is added to both is gone
pub both : (r a b : List Bool) → length r ≡ length a → length r ≡ length b → sum_of (sum_of r a) (sum_of r b) ≡ sum_of a b
both r a b h k =
    let l : length (sum_of a b) ≡ length a = length-sum_of a b (omega arith) in
    sum_of-inner r a r b ∙ ap (λ s. sum_of s (sum_of a b)) (sum_of-self r ∙ zeros_same r (sum_of a b) (omega arith))
    ∙ sum_of-from_zeros (sum_of a b) (sum_of a b) refl

-- ---- times x

moved-sum : (p q : Bool) (us vs : List Bool) → moved (bit_sum p q) (sum_of us vs) ≡ sum_of (moved p us) (moved q vs)
moved-sum p q [] vs = refl
moved-sum p q (a ∷ us) [] = refl
moved-sum p q (a ∷ us) (b ∷ vs) = ap (λ s. bit_sum p q ∷ s) (moved-sum a b us vs)

last_bit-sum : (p q : Bool) (us vs : List Bool) → length us ≡ length vs → last_bit (bit_sum p q) (sum_of us vs) ≡ bit_sum (last_bit p us) (last_bit q vs)
last_bit-sum p q [] [] h = refl
last_bit-sum p q [] (b ∷ vs) h = absurd (omega arith)
last_bit-sum p q (a ∷ us) [] h = absurd (omega arith)
last_bit-sum p q (a ∷ us) (b ∷ vs) h = last_bit-sum a b us vs (omega arith)

cond-sum : (p q : Bool) (r a b : List Bool) → length r ≡ length a → length r ≡ length b
    → cond (bit_sum p q) (sum_of r (sum_of a b)) (sum_of a b) ≡ sum_of (cond p (sum_of r a) a) (cond q (sum_of r b) b)
cond-sum true true r a b h k = sym (both r a b h k)
cond-sum true false r a b h k = sym (sum_of-assoc r a b)
cond-sum false true r a b h k = sym (sum_of-assoc r a b) ∙ ap (λ s. sum_of s b) (sum_of-comm r a) ∙ sum_of-assoc a r b
cond-sum false false r a b h k = refl

times_x-sum : (r us vs : List Bool) → length r ≡ length us → length r ≡ length vs → times_x r (sum_of us vs) ≡ sum_of (times_x r us) (times_x r vs)
times_x-sum r us vs h k =
    let a = moved false us in
    let b = moved false vs in
    let m : moved false (sum_of us vs) ≡ sum_of a b = moved-sum false false us vs in
    let l : last_bit false (sum_of us vs) ≡ bit_sum (last_bit false us) (last_bit false vs) = last_bit-sum false false us vs (omega arith) in
    let e : length a ≡ length us = length-moved false us in
    let f : length b ≡ length vs = length-moved false vs in
    (λ i. cond (l i) (sum_of r (m i)) (m i)) ∙ cond-sum (last_bit false us) (last_bit false vs) r a b (omega arith) (omega arith)

last_bit-zeros : (vs : List Bool) → last_bit false (map (λ (b : Bool). false) vs) ≡ false
last_bit-zeros [] = refl
last_bit-zeros (b ∷ vs) = last_bit-zeros vs

moved-zeros : (vs : List Bool) → moved false (map (λ (b : Bool). false) vs) ≡ map (λ (b : Bool). false) vs
moved-zeros [] = refl
moved-zeros (b ∷ vs) = ap (λ s. false ∷ s) (moved-zeros vs)

times_x-zeros : (r vs : List Bool) → times_x r (map (λ (b : Bool). false) vs) ≡ map (λ (b : Bool). false) vs
times_x-zeros r vs =
    let z = map (λ (b : Bool). false) vs in
    ap (λ p. cond p (sum_of r (moved false z)) (moved false z)) (last_bit-zeros vs) ∙ moved-zeros vs

-- ---- products

product-times_x : (r us v : List Bool) → length r ≡ length v → product r us (times_x r v) ≡ times_x r (product r us v)
product-times_x r [] v h = zeros_same (times_x r v) v (length-times_x r v h) ∙ sym (times_x-zeros r v)
product-times_x r (true ∷ us) v h =
    let w = times_x r v in
    let l : length w ≡ length v = length-times_x r v h in
    let m : length (product r us w) ≡ length w = length-product r us w (omega arith) in
    ap (sum_of w) (product-times_x r us w (omega arith)) ∙ sym (times_x-sum r v (product r us w) h (omega arith))
product-times_x r (false ∷ us) v h =
    let l : length (times_x r v) ≡ length v = length-times_x r v h in
    product-times_x r us (times_x r v) (omega arith)

pub length-times_power : (n : ℕ) (v : List Bool) → length v ≡ 128 → length (times_power n v) ≡ 128
unfolding times_power
length-times_power zero v h = h
length-times_power (suc n) v h =
    let l : length (times_x reduction v) ≡ length v = length-times_x reduction v (length-reduction ∙ sym h) in
    length-times_power n (times_x reduction v) (l ∙ h)

-- a block times x is a block
pub next : (v : List Bool) → length v ≡ 128 → length (times_x reduction v) ≡ 128
next v h = length-times_x reduction v (length-reduction ∙ sym h) ∙ h

pub product-times_power : (n : ℕ) (us v : List Bool) → length v ≡ 128 → product reduction us (times_power n v) ≡ times_power n (product reduction us v)
unfolding times_power
product-times_power zero us v h = refl
product-times_power (suc n) us v h =
    product-times_power n us (times_x reduction v) (next v h)
    ∙ ap (times_power n) (product-times_x reduction us v (length-reduction ∙ sym h))

pub times_power-sum : (n : ℕ) (us vs : List Bool) → length us ≡ 128 → length vs ≡ 128 → times_power n (sum_of us vs) ≡ sum_of (times_power n us) (times_power n vs)
unfolding times_power
times_power-sum zero us vs h k = refl
times_power-sum (suc n) us vs h k =
    ap (times_power n) (times_x-sum reduction us vs (length-reduction ∙ sym h) (length-reduction ∙ sym k))
    ∙ times_power-sum n (times_x reduction us) (times_x reduction vs) (next us h) (next vs k)

pub times_power-add : (m n : ℕ) (v : List Bool) → times_power n (times_power m v) ≡ times_power (m + n) v
unfolding times_power
times_power-add zero n v = rw zero-add refl
times_power-add (suc m) n v =
    let e : suc m + n ≡ suc (m + n) = omega arith in
    times_power-add m n (times_x reduction v) ∙ (rw e refl)

-- a product by two strings, one behind the other
pub product-append : (us vs v : List Bool) → length v ≡ 128
    → product reduction (us ++ vs) v ≡ sum_of (product reduction us v) (product reduction vs (times_power (length us) v))
unfolding times_power
product-append [] vs v h =
    let l : length (product reduction vs v) ≡ length v = length-product reduction vs v (length-reduction ∙ sym h) in
    sym (sum_of-from_zeros (product reduction vs v) (product reduction vs v) refl)
    ∙ ap (λ z. sum_of z (product reduction vs v)) (zeros_same (product reduction vs v) v l)
product-append (true ∷ us) vs v h =
    ap (sum_of v) (product-append us vs (times_x reduction v) (next v h))
    ∙ sym (sum_of-assoc v (product reduction us (times_x reduction v)) (product reduction vs (times_power (length us) (times_x reduction v))))
product-append (false ∷ us) vs v h = product-append us vs (times_x reduction v) (next v h)

-- zeros behind a string change no product
product-zeros : (n : ℕ) (v : List Bool) → length v ≡ 128 → product reduction (replicate n false) v ≡ map (λ (b : Bool). false) v
product-zeros zero v h = refl
product-zeros (suc n) v h =
    product-zeros n (times_x reduction v) (next v h) ∙ zeros_same (times_x reduction v) v (next v h ∙ sym h)

pub product-padded : (us v : List Bool) (n : ℕ) → length v ≡ 128 → product reduction (us ++ replicate n false) v ≡ product reduction us v
product-padded us v n h =
    let w = times_power (length us) v in
    let l : length w ≡ 128 = length-times_power (length us) v h in
    let m : length (product reduction us v) ≡ length v = length-product reduction us v (length-reduction ∙ sym h) in
    product-append us (replicate n false) v h ∙ ap (sum_of (product reduction us v)) (product-zeros n w l)
    ∙ sum_of-zeros (product reduction us v) w (omega arith)
