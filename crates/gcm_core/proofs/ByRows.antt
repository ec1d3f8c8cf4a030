-- The product by rows: lane by lane or row by row.
use Rattle.std.proofs.Common.{◌≡◌, ℕ, zero, suc, ◌<◌, Bool, false, List, [], ◌∷◌, length, map, replicate, refl, sym, ap, ◌∙◌, arith}
use Rattle.aes_block.specs.Bits.{bits, octet_bits}
use Rattle.aes_block.specs.Product.{sum_of, product}
use Rattle.aes_block.proofs.Public.{AreOctets}
use Rattle.gcm_core.specs.Ghash.{reduction}
use Rattle.gcm_core.specs.inside.Tables.{times_power}
use Rattle.gcm_core.proofs.Products.{length-sum_of}
use Rattle.gcm_core.proofs.Powers.{length-times_power, product-append, product-times_power, sum_of-inner, times_power-sum}
use Rattle.gcm_core.specs.inside.Rows.{first_octet, lanes_sum, rows_of_block, rows_of_octet}

abbrev pub none : List Bool
none = replicate 128 false

pub none_moved : times_power 8 none ≡ none
unfolding times_power reduction
none_moved = refl

pub none_twice : sum_of none none ≡ none
none_twice = refl

-- a function that gives blocks
abbrev pub Gives : (ℕ → List Bool) → Type 0
Gives f = (x : ℕ) → length (f x) ≡ 128

pub length-sum : (us vs : List Bool) → length us ≡ 128 → length vs ≡ 128 → length (sum_of us vs) ≡ 128
length-sum us vs h k = length-sum_of us vs (h ∙ sym k) ∙ h

pub length-lanes_sum : (f : ℕ → List Bool) → Gives f → (xs : List ℕ) → length (lanes_sum f xs) ≡ 128
length-lanes_sum f gives [] = refl
length-lanes_sum f gives (x ∷ xs) =
    length-sum (f x) (times_power 8 (lanes_sum f xs)) (gives x) (length-times_power 8 (lanes_sum f xs) (length-lanes_sum f gives xs))

lanes_sum-sum : (f g : ℕ → List Bool) → Gives f → Gives g → (xs : List ℕ)
    → lanes_sum (λ x. sum_of (f x) (g x)) xs ≡ sum_of (lanes_sum f xs) (lanes_sum g xs)
lanes_sum-sum f g gf gg [] = sym none_twice
lanes_sum-sum f g gf gg (x ∷ xs) =
    ap (sum_of (sum_of (f x) (g x))) (ap (times_power 8) (lanes_sum-sum f g gf gg xs)
    ∙ times_power-sum 8 (lanes_sum f xs) (lanes_sum g xs) (length-lanes_sum f gf xs) (length-lanes_sum g gg xs))
    ∙ sum_of-inner (f x) (g x) (times_power 8 (lanes_sum f xs)) (times_power 8 (lanes_sum g xs))

lanes_sum-moved : (f : ℕ → List Bool) → Gives f → (xs : List ℕ) → lanes_sum (λ x. times_power 8 (f x)) xs ≡ times_power 8 (lanes_sum f xs)
lanes_sum-moved f gf [] = sym none_moved
lanes_sum-moved f gf (x ∷ xs) =
    ap (λ s. sum_of (times_power 8 (f x)) (times_power 8 s)) (lanes_sum-moved f gf xs)
    ∙ sym (times_power-sum 8 (f x) (times_power 8 (lanes_sum f xs)) (gf x) (length-times_power 8 (lanes_sum f xs) (length-lanes_sum f gf xs)))

lanes_sum-none : (xs : List ℕ) → lanes_sum (λ _. none) xs ≡ none
lanes_sum-none [] = refl
lanes_sum-none (x ∷ xs) = ap (λ s. sum_of none (times_power 8 s)) (lanes_sum-none xs) ∙ ap (sum_of none) none_moved ∙ none_twice

lanes_sum-same : (f g : ℕ → List Bool) → ((x : ℕ) → x < 256 → f x ≡ g x) → (xs : List ℕ) → AreOctets xs → lanes_sum f xs ≡ lanes_sum g xs
lanes_sum-same f g same [] h = refl
lanes_sum-same f g same (x ∷ xs) h = λ i. sum_of (same x h.0 i) (times_power 8 (lanes_sum-same f g same xs h.1 i))

-- ---- a product, octet by octet

-- no bit of a string
pub no_bits : (v : List Bool) (n : ℕ) → length v ≡ n → map (λ (b : Bool). false) v ≡ replicate n false
no_bits [] zero h = refl
no_bits [] (suc n) h = absurd (omega arith)
no_bits (b ∷ v) zero h = absurd (omega arith)
no_bits (b ∷ v) (suc n) h = ap (λ s. false ∷ s) (no_bits v n (omega arith))

by_octets : (h : List Bool) → length h ≡ 128 → (xs : List ℕ)
    → product reduction (bits xs) h ≡ lanes_sum (λ x. product reduction (octet_bits x) h) xs
by_octets h l [] = no_bits h 128 l
by_octets h l (x ∷ xs) =
    product-append (octet_bits x) (bits xs) h l
    ∙ ap (sum_of (product reduction (octet_bits x) h)) (product-times_power 8 (bits xs) h l ∙ ap (times_power 8) (by_octets h l xs))

-- ---- rows

pub length-first_octet : (b : ℕ) → length (first_octet b) ≡ 128
length-first_octet b = refl

length-rows : (rows : ℕ → ℕ → ℕ) (k o b : ℕ) → length (rows_of_octet rows k o b) ≡ 128
length-rows rows zero o b = refl
length-rows rows (suc k) o b =
    length-sum (first_octet (rows o b)) (times_power 8 (rows_of_octet rows k (suc o) b)) (length-first_octet (rows o b))
    (length-times_power 8 (rows_of_octet rows k (suc o) b) (length-rows rows k (suc o) b))

-- row by row is lane by lane
lane_by_lane : (rows : ℕ → ℕ → ℕ) (k o : ℕ) (xs : List ℕ) → rows_of_block rows k o xs ≡ lanes_sum (rows_of_octet rows k o) xs
lane_by_lane rows zero o xs = sym (lanes_sum-none xs)
lane_by_lane rows (suc k) o xs =
    let rest = rows_of_octet rows k (suc o) in
    ap (λ s. sum_of (lanes_sum (λ x. first_octet (rows o x)) xs) (times_power 8 s)) (lane_by_lane rows k (suc o) xs)
    ∙ ap (sum_of (lanes_sum (λ x. first_octet (rows o x)) xs)) (sym (lanes_sum-moved rest (length-rows rows k (suc o)) xs))
    ∙ sym (lanes_sum-sum (λ x. first_octet (rows o x)) (λ x. times_power 8 (rest x)) (λ x. length-first_octet (rows o x))
    (λ x. length-times_power 8 (rest x) (length-rows rows k (suc o) x)) xs)

pub by_rows_in : (k : ℕ) (h : List Bool) (rows : ℕ → ℕ → ℕ) (xs : List ℕ) → length h ≡ 128 → AreOctets xs
    → ((b : ℕ) → b < 256 → rows_of_octet rows k 0 b ≡ product reduction (octet_bits b) h)
    → rows_of_block rows k 0 xs ≡ product reduction (bits xs) h
by_rows_in k h rows xs l octets are =
    lane_by_lane rows k 0 xs
    ∙ lanes_sum-same (rows_of_octet rows k 0) (λ x. product reduction (octet_bits x) h) are xs octets
    ∙ sym (by_octets h l xs)
