-- The operations on vectors of 16 octets, lane by lane.
use Rattle.std.proofs.Common.{◌≡◌, ℕ, ◌+◌, ◌*◌, ◌/◌, ◌^◌, ◌<◌, Bool, true, false, cond, ◌||◌, T, ltb, leb, List, [], ◌∷◌, map, length, get_or, replicate, bit_and, bit_xor, refl, sym, ap, subst, ◌∙◌, inl, inr, arith, w8, Fits}
use Rattle.std.proofs.lemmas.Bool.{or_cases, leb-true, leb-false, ltb-true, ltb-false}
use Rattle.std.proofs.lemmas.List.{ext_get_or, get_or-map, length-map}
use Rattle.std.proofs.lemmas.Simd.{Each1-get_or, Each1-weaker, Each1-zip2, Each2-splat, below_from_Fits, get_or-swz_l, length-swz_l, length-zip2, map-map, swz_l, SwzOk, SwzOk-from_Each1, zip2_of_maps, zip2_splat}
use lib.Lanes.{zip2, Each1}
use mir.Val.{zeroes}
use Rattle.aes_block.proofs.EachOctet.{at_octet}
use Rattle.aes_block.specs.LookUp.{entry_at}

-- 16 octets
abbrev pub IsVector : List ℕ → Type 0
IsVector v = (length v ≡ 16) × Each1 (Fits w8) v

pub lane_fits : (v : List ℕ) (i : ℕ) → i < length v → Each1 (Fits w8) v → get_or v i 0 < 256
lane_fits v i h fits = Each1-get_or (λ x. x < 256) v i 0 h (below_from_Fits w8 v fits)

-- two functions that are equal at octets make the same of a vector
pub equal_maps : (f g : ℕ → ℕ) → ((x : ℕ) → x < 256 → f x ≡ g x) → (v : List ℕ) → Each1 (Fits w8) v → map f v ≡ map g v
equal_maps f g same [] fits = refl
equal_maps f g same (x ∷ xs) fits = λ i. same x fits.0.fits i ∷ equal_maps f g same xs fits.1 i

-- ---- look-ups

masked : (a : ℕ) → a < 256 → (leb 128 (bit_and a 143) || ltb (bit_and a 143) 16) ≡ true
masked = at_octet (λ a. leb 128 (bit_and a 143) || ltb (bit_and a 143) 16) refl

is_place : (a : ℕ) → a < 256 → T (zeroes 16 w8 (bit_and a 143) || ltb (bit_and a 143) 16)
is_place a fits = subst T (sym (masked a fits)) tt

pub places_ok : (v : List ℕ) → IsVector v → SwzOk w8 16 16 0 (zip2 bit_and v (replicate 16 143))
places_ok v fits =
    let each = Each1-weaker (λ a. a < 256) (λ a. T (zeroes 16 w8 (bit_and a 143) || ltb (bit_and a 143) 16)) is_place v (below_from_Fits w8 v fits.1) in
    SwzOk-from_Each1 w8 16 1 16 0 (zip2 bit_and v (replicate 16 143)) refl (omega (arith, length-zip2 bit_and v (replicate 16 143) fits.0))
    (Each1-zip2 bit_and (λ j. T (zeroes 16 w8 j || ltb j 16)) v (replicate 16 143) (Each2-splat (λ a b. T (zeroes 16 w8 (bit_and a b) || ltb (bit_and a b) 16)) v 16 143 each))

one_entry : (t : List ℕ) (b : ℕ) → (leb 128 b || ltb b 16) ≡ true → cond (leb 128 b) 0 (get_or t b 0) ≡ cond (ltb b 16) (get_or t b 0) 0
one_entry t b is = go (leb 128 b) (ltb b 16) refl refl
  where
    go : (z s : Bool) → leb 128 b ≡ z → ltb b 16 ≡ s → cond z 0 (get_or t b 0) ≡ cond s (get_or t b 0) 0
    go true true e f = absurd (omega (arith, leb-true 128 b e, ltb-true b 16 f))
    go true false e f = refl
    go false true e f = refl
    go false false e f = elim (or_cases (leb 128 b) (ltb b 16) is) [ inl p ↦ absurd (omega (arith, leb-true 128 b p, leb-false 128 b e)) | inr q ↦ absurd (omega (arith, ltb-true b 16 q, ltb-false b 16 f)) ]

pub looked_up : (t v : List ℕ) → IsVector v → swz_l w8 16 t 0 (zip2 bit_and v (replicate 16 143)) ≡ map (entry_at t) v
looked_up t v fits =
    let js = zip2 bit_and v (replicate 16 143) in
    let e : js ≡ map (λ x. bit_and x 143) v = zip2_splat bit_and v 16 143 fits.0 in
    let long : length js ≡ 16 = ap length e ∙ length-map v (λ x. bit_and x 143) ∙ fits.0 in
    ext_get_or 0 _ _ (length-swz_l w8 16 t 0 js ∙ long ∙ sym (length-map v (entry_at t) ∙ fits.0)) (λ i h.
    let lt : i < 16 = omega (arith, length-swz_l w8 16 t 0 js, long) in
    let within : i < length v = omega (arith, fits.0) in
    let x = get_or v i 0 in
    let is : get_or js i 0 ≡ bit_and x 143 = ap (λ l. get_or l i 0) e ∙ get_or-map (λ y. bit_and y 143) v i 0 0 within in
    let block : 16 * ((0 + i) / 16) + get_or js i 0 ≡ bit_and x 143 = omega (arith, is) in
    get_or-swz_l w8 16 t 0 js i (omega (arith, long))
    ∙ (λ k. cond (zeroes 16 w8 (is k)) 0 (get_or t (block k) 0))
    ∙ one_entry t (bit_and x 143) (masked x (lane_fits v i within fits.1))
    ∙ sym (get_or-map (entry_at t) v i 0 0 within))

-- a look-up at places that were made of v
pub looked : (t : List ℕ) (g : ℕ → ℕ) (v : List ℕ) {at r : List ℕ} → r ≡ map (entry_at t) at → at ≡ map g v → r ≡ map (λ x. entry_at t (g x)) v
looked t g v e f = e ∙ ap (map (entry_at t)) f ∙ map-map (entry_at t) g v

-- ---- the halves of octets, and sums

abbrev pub down : ℕ → ℕ → ℕ
down a b = a / 2 ^ b

pub upper : (v : List ℕ) → IsVector v → zip2 down v (replicate 16 4) ≡ map (λ x. x / 16) v
upper v fits = zip2_splat down v 16 4 fits.0

pub lower : (v : List ℕ) → IsVector v → zip2 bit_and v (replicate 16 15) ≡ map (λ x. bit_and x 15) v
lower v fits = zip2_splat bit_and v 16 15 fits.0

pub sum : (g h : ℕ → ℕ) (v : List ℕ) {xs ys : List ℕ} → xs ≡ map g v → ys ≡ map h v → zip2 bit_xor xs ys ≡ map (λ x. bit_xor (g x) (h x)) v
sum g h v = zip2_of_maps bit_xor g h v
