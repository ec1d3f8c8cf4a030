-- Products modulo the polynomial of GCM are additive in the first string too, and associative.
use Rattle.std.proofs.Common.{◌≡◌, ℕ, zero, suc, Bool, true, false, cond, List, [], ◌∷◌, ◌++◌, length, replicate, refl, sym, ap, ◌∙◌, arith}
use Rattle.aes_block.specs.Product.{sum_of, moved, last_bit, times_x, product}
use Rattle.gcm_core.specs.Ghash.{reduction}
use Rattle.gcm_core.specs.inside.Tables.{times_power}
use Rattle.gcm_core.proofs.Products.{length-moved, length-product, length-reduction, sum_of-assoc}
use Rattle.gcm_core.proofs.Powers.{both, next, length-times_power, product-append, product-times_power, sum_of-comm}
use Rattle.gcm_core.proofs.Folded.{folded}
use Rattle.gcm_core.proofs.ByRows.{no_bits, none, none_twice}
use Rattle.gcm_core.proofs.OctetLanes.{none_behind}

-- the product with a block
abbrev pub by : List Bool → List Bool → List Bool
by us v = product reduction us v

pub length-by : (us v : List Bool) → length v ≡ 128 → length (by us v) ≡ 128
length-by us v h = length-product reduction us v (length-reduction ∙ sym h) ∙ h

by-nil : (v : List Bool) → length v ≡ 128 → by [] v ≡ none
by-nil v h = no_bits v 128 h

-- ---- additive in the first string

by-none : (n : ℕ) (v : List Bool) → length v ≡ 128 → by (replicate n false) v ≡ none
by-none zero v h = by-nil v h
by-none (suc n) v h = by-none n (times_x reduction v) (next v h)

cancelled : (v p q : List Bool) → length v ≡ 128 → length p ≡ 128 → length q ≡ 128 → sum_of (sum_of v p) (sum_of v q) ≡ sum_of p q
cancelled v p q h hp hq = both v p q (h ∙ sym hp) (h ∙ sym hq)

pub by-sum : (us vs w : List Bool) → length us ≡ length vs → length w ≡ 128 → by (sum_of us vs) w ≡ sum_of (by us w) (by vs w)
by-sum [] [] w e h = by-nil w h ∙ sym (ap (λ s. sum_of s s) (by-nil w h) ∙ none_twice)
by-sum [] (b ∷ vs) w e h = absurd (omega arith)
by-sum (a ∷ us) [] w e h = absurd (omega arith)
by-sum (true ∷ us) (true ∷ vs) w e h =
    let x = times_x reduction w in
    by-sum us vs x (omega arith) (next w h) ∙ sym (cancelled w (by us x) (by vs x) h (length-by us x (next w h)) (length-by vs x (next w h)))
by-sum (true ∷ us) (false ∷ vs) w e h =
    let x = times_x reduction w in
    ap (sum_of w) (by-sum us vs x (omega arith) (next w h)) ∙ sym (sum_of-assoc w (by us x) (by vs x))
by-sum (false ∷ us) (true ∷ vs) w e h =
    let x = times_x reduction w in
    ap (sum_of w) (by-sum us vs x (omega arith) (next w h)) ∙ sym (sum_of-assoc w (by us x) (by vs x))
    ∙ ap (λ s. sum_of s (by vs x)) (sum_of-comm w (by us x)) ∙ sum_of-assoc (by us x) w (by vs x)
by-sum (false ∷ us) (false ∷ vs) w e h = by-sum us vs (times_x reduction w) (omega arith) (next w h)

-- ---- the first string times x

-- the product with the lower terms
low : (w : List Bool) → length w ≡ 128 → by reduction w ≡ sum_of w (sum_of (times_power 1 w) (sum_of (times_power 2 w) (times_power 7 w)))
unfolding reduction times_power
low w h =
    let t = λ (n : ℕ). times_power n w in
    ap (λ s. sum_of w (sum_of (t 1) (sum_of (t 2) (sum_of (t 7) s)))) (by-none 120 (times_power 8 w) (length-times_power 8 w h))
    ∙ ap (λ s. sum_of w (sum_of (t 1) (sum_of (t 2) s))) (none_behind (t 7) 128 (length-times_power 7 w h))

-- it is x ^ 128
by-reduction : (w : List Bool) → length w ≡ 128 → by reduction w ≡ times_power 128 w
by-reduction w h = low w h ∙ sym (folded w h)

-- a string moved on, and what falls out behind it
parts : (p : Bool) (us : List Bool) → moved p us ++ (last_bit p us ∷ []) ≡ p ∷ us
parts p [] = refl
parts p (b ∷ us) = ap (λ s. p ∷ s) (parts b us)

abbrev single : (b : Bool) → List Bool → List Bool
single true v = v
single false v = none

by-single : (b : Bool) (v : List Bool) → length v ≡ 128 → by (b ∷ []) v ≡ single b v
by-single true v h = ap (sum_of v) (by-nil (times_x reduction v) (next v h)) ∙ none_behind v 128 h
by-single false v h = by-nil (times_x reduction v) (next v h)

moved_on : (us w : List Bool) → length us ≡ 128 → length w ≡ 128
    → by us (times_x reduction w) ≡ sum_of (by (moved false us) w) (single (last_bit false us) (times_power 128 w))
moved_on us w h k =
    let m = moved false us in
    let l : length m ≡ 128 = length-moved false us ∙ h in
    ap (λ s. by s w) (sym (parts false us))
    ∙ product-append m (last_bit false us ∷ []) w k
    ∙ ap (λ n. sum_of (by m w) (by (last_bit false us ∷ []) (times_power n w))) l
    ∙ ap (sum_of (by m w)) (by-single (last_bit false us) (times_power 128 w) (length-times_power 128 w k))

pub by-times_x : (us w : List Bool) → length us ≡ 128 → length w ≡ 128 → by (times_x reduction us) w ≡ by us (times_x reduction w)
by-times_x us w h k = fell (last_bit false us) ∙ sym (moved_on us w h k)
  where
    fell : (b : Bool) → by (cond b (sum_of reduction (moved false us)) (moved false us)) w ≡ sum_of (by (moved false us) w) (single b (times_power 128 w))
    fell true =
        let m = moved false us in
        by-sum reduction m w (length-reduction ∙ sym (length-moved false us ∙ h)) k
        ∙ ap (λ s. sum_of s (by m w)) (by-reduction w k) ∙ sum_of-comm (times_power 128 w) (by m w)
    fell false = sym (none_behind (by (moved false us) w) 128 (length-by (moved false us) w k))

turned : (v w : List Bool) → length v ≡ 128 → length w ≡ 128 → by (times_x reduction v) w ≡ times_x reduction (by v w)
unfolding times_power
turned v w h k = by-times_x v w h k ∙ product-times_power 1 v w k

-- ---- associative

pub by-by : (us v w : List Bool) → length v ≡ 128 → length w ≡ 128 → by (by us v) w ≡ by us (by v w)
by-by [] v w h k = ap (λ s. by s w) (by-nil v h) ∙ by-none 128 w k ∙ sym (by-nil (by v w) (length-by v w k))
by-by (true ∷ us) v w h k =
    let x = times_x reduction v in
    by-sum v (by us x) w (h ∙ sym (length-by us x (next v h))) k
    ∙ ap (sum_of (by v w)) (by-by us x w (next v h) k ∙ ap (by us) (turned v w h k))
by-by (false ∷ us) v w h k =
    by-by us (times_x reduction v) w (next v h) k ∙ ap (by us) (turned v w h k)
