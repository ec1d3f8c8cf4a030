-- Reading refuses in the order of the refusals.
use Rattle.std.specs.Prelude.{◌&&◌, not, is_some}
use Rattle.std.specs.List.{list_any}
use Rattle.std.specs.Cmp.Lexicographic.{pointwise}
use Rattle.byteorder.specs.Endian.{big_number}
use Rattle.std.proofs.Common.{◌≡◌, ℕ, zero, suc, ◌-◌, ◌/◌, ◌≤◌, Bool, true, false, cond, leb, eqb, List, [], ◌∷◌, length, take, drop, Option, Some, None, Result, Ok, Err, refl, sym, ap, ◌∙◌, arith, inl, inr, length-drop}
use Rattle.std.proofs.lemmas.Bool.{leb-true, and_parts}
use Rattle.std.proofs.lemmas.List.{drop-drop, drop-take, take-take}
use Rattle.mkpdu_codec.specs.declared.refusal.Refusal.{Refusal}
use Rattle.mkpdu_codec.specs.declared.refusal.Refusal.TheVariants.{Shape, Repeated, Agility}
use Rattle.mkpdu_codec.specs.declared.spelled.Spelled.{Spelled}
use Rattle.mkpdu_codec.specs.Sets.{agility}
use Rattle.mkpdu_codec.specs.Frames.{Set}
use Rattle.mkpdu_codec.specs.Refusals.{is_mka, is_long_enough, check_place, sets_of, others_of, front_kind, front_length, front_size, is_whole, is_indicator, is_length_of, is_single, is_basic, is_known, refused_sets, refused, or_else}
use Rattle.mkpdu_codec.specs.Fields.{number_at, mi_at, sci_at, Basics, basic_in, basic_at}
use Rattle.mkpdu_codec.specs.Reading.{◌>>=◌, Gathered, nothing, noted, placed, with_length, shaped_at, gathered, parts_at, reading}
use Rattle.mkpdu_codec.proofs.Taking.{octets_at-long}
use Rattle.mkpdu_codec.proofs.SetOctets.{front_set, set_at-whole, set_at-not, length-front_set}
use Rattle.mkpdu_codec.proofs.Places.{slot, put, Kinds, kinds, placing, placed-is, HasMet, HasMet-put, HasMet-other}
use Rattle.mkpdu_codec.proofs.Loops.{Goes, gathered_step}

abbrev pub error_of : {X : Type 0} → Result X Refusal → Option Refusal
error_of (Ok x) = None
error_of (Err e) = Some e

-- ---- a set that stands in front

with_length-true : (at : ℕ) (x : Set × List ℕ) → is_length_of x.0.kind (length x.0.body) ≡ true → with_length at (Some x) ≡ Ok x
with_length-true at x e = rw e refl

with_length-false : (at : ℕ) (x : Set × List ℕ) → is_length_of x.0.kind (length x.0.body) ≡ false → with_length at (Some x) ≡ Err (Shape at)
with_length-false at x e = rw e refl

pub shaped_at-whole : (end : ℕ) (octets : List ℕ) → is_whole octets ≡ true → is_length_of (front_kind octets) (front_length octets) ≡ true → shaped_at end octets ≡ Ok (front_set octets, drop (front_size octets) octets)
unfolding shaped_at
shaped_at-whole end octets w l =
    let len : is_length_of (front_kind octets) (length (take (front_length octets) (drop 4 octets))) ≡ true = ap (is_length_of (front_kind octets)) (length-front_set octets w) ∙ l in
    ap (with_length (end - length octets)) (set_at-whole octets w) ∙ with_length-true (end - length octets) (front_set octets, drop (front_size octets) octets) len

pub shaped_at-not : (end : ℕ) (octets : List ℕ) → is_whole octets ≡ true → is_length_of (front_kind octets) (front_length octets) ≡ false → shaped_at end octets ≡ Err (Shape (end - length octets))
unfolding shaped_at
shaped_at-not end octets w l =
    let len : is_length_of (front_kind octets) (length (take (front_length octets) (drop 4 octets))) ≡ false = ap (is_length_of (front_kind octets)) (length-front_set octets w) ∙ l in
    ap (with_length (end - length octets)) (set_at-whole octets w) ∙ with_length-false (end - length octets) (front_set octets, drop (front_size octets) octets) len

pub shaped_at-cut : (end : ℕ) (octets : List ℕ) → is_whole octets ≡ false → shaped_at end octets ≡ Err (Shape (end - length octets))
unfolding shaped_at
shaped_at-cut end octets w = ap (with_length (end - length octets)) (set_at-not octets w)

-- ---- the sets, one after the other

-- the refusal of the set in front, or of those behind it
abbrev refused_here : ℕ → ℕ → List ℕ → List ℕ → Option Refusal
refused_here n end met octets =
    cond (not (is_whole octets && is_length_of (front_kind octets) (front_length octets))) (Some (Shape (end - length octets)))
    (cond (is_single (front_kind octets) && list_any (λ j. eqb j (front_kind octets)) met) (Some (Repeated (front_kind octets)))
    (refused_sets n end (front_kind octets ∷ met) (drop (front_size octets) octets)))

refused_step : (n end : ℕ) (met octets : List ℕ) → Goes octets → refused_sets (suc n) end met octets ≡ refused_here n end met octets
unfolding refused_sets
refused_step n end met octets goes = rw (goes.0, goes.1) refl

abbrev gathered_here : ℕ → ℕ → Gathered → List ℕ → Result Gathered Refusal
gathered_here n end g octets = shaped_at end octets >>= λ s. placed g s.0 >>= λ more. gathered n end more s.1

-- of a set that has its shape
module _ (n end : ℕ) (g : Gathered) (met octets : List ℕ) (h : HasMet g met)
    (next : (g : Gathered) (met : List ℕ) → HasMet g met → refused_sets n end met (drop (front_size octets) octets) ≡ error_of (gathered n end g (drop (front_size octets) octets))) where
  abbrev kind : ℕ
  kind = front_kind octets

  abbrev behind : Result Gathered Refusal → Result Gathered Refusal
  behind r = r >>= λ more. gathered n end more (drop (front_size octets) octets)

  abbrev repeated_or : Bool → Option Refusal
  repeated_or b = cond b (Some (Repeated kind)) (refused_sets n end (kind ∷ met) (drop (front_size octets) octets))

  unplaced : is_single kind ≡ false → repeated_or (is_single kind && list_any (λ j. eqb j kind) met) ≡ error_of (behind (placing g (front_set octets)))
  unplaced single = rw single (next (noted (front_set octets) g) (kind ∷ met) (HasMet-other (front_set octets) g met single h))

  repeated : is_single kind ≡ true → list_any (λ j. eqb j kind) met ≡ true → repeated_or (is_single kind && list_any (λ j. eqb j kind) met) ≡ error_of (behind (placing g (front_set octets)))
  repeated single taken = let here = h kind single in rw (single, here, taken) refl

  placed_now : is_single kind ≡ true → list_any (λ j. eqb j kind) met ≡ false → repeated_or (is_single kind && list_any (λ j. eqb j kind) met) ≡ error_of (behind (placing g (front_set octets)))
  placed_now single free = let here = h kind single in rw (single, here, free) (next (put (front_set octets) g) (kind ∷ met) (HasMet-put (front_set octets) g met h))

  by_place : repeated_or (is_single kind && list_any (λ j. eqb j kind) met) ≡ error_of (behind (placing g (front_set octets)))
  by_place =
      elim (is_single kind) as (λ t. is_single kind ≡ t → repeated_or (is_single kind && list_any (λ j. eqb j kind) met) ≡ error_of (behind (placing g (front_set octets)))) [
        | false ↦ λ e. unplaced e
        | true ↦ λ e. elim (list_any (λ j. eqb j kind) met) as (λ t. list_any (λ j. eqb j kind) met ≡ t → repeated_or (is_single kind && list_any (λ j. eqb j kind) met) ≡ error_of (behind (placing g (front_set octets)))) [
          | true ↦ λ d. repeated e d
          | false ↦ λ d. placed_now e d
        ] refl
      ] refl

  here_is : refused_here n end met octets ≡ error_of (gathered_here n end g octets)
  here_is =
      elim (is_whole octets) as (λ t. is_whole octets ≡ t → refused_here n end met octets ≡ error_of (gathered_here n end g octets)) [
        | false ↦ λ w. rw (shaped_at-cut end octets w, w) refl
        | true ↦ λ w. elim (is_length_of kind (front_length octets)) as (λ t. is_length_of kind (front_length octets) ≡ t → refused_here n end met octets ≡ error_of (gathered_here n end g octets)) [
          | false ↦ λ l. rw (shaped_at-not end octets w l, w, l) refl
          | true ↦ λ l. rw (shaped_at-whole end octets w l, placed-is g (front_set octets), w, l) by_place
        ] refl
      ] refl

pub refused_sets-is : (n end : ℕ) (octets : List ℕ) (g : Gathered) (met : List ℕ) → HasMet g met → refused_sets n end met octets ≡ error_of (gathered n end g octets)
unfolding refused_sets gathered
refused_sets-is zero end octets g met h = refl
refused_sets-is (suc n) end octets g met h =
    elim (eqb (length octets) 0) as (λ t. eqb (length octets) 0 ≡ t → refused_sets (suc n) end met octets ≡ error_of (gathered (suc n) end g octets)) [
      | true ↦ λ e. rw e refl
      | false ↦ λ e. elim (is_indicator octets) as (λ t. is_indicator octets ≡ t → refused_sets (suc n) end met octets ≡ error_of (gathered (suc n) end g octets)) [
        | true ↦ λ d. rw (e, d) refl
        | false ↦ λ d. refused_step n end met octets (e, d) ∙ here_is n end g met octets h (refused_sets-is n end (drop (front_size octets) octets)) ∙ sym (ap error_of (gathered_step n end g octets (e, d)))
      ] refl
    ] refl

-- ---- the Basic Parameter Set

-- what the body of a Basic Parameter Set says
abbrev pub basics_in : Set → Basics
basics_in s = record {
  priority = s.second;
  server = eqb (s.flags / 8) 1;
  sci = record { 0 = take 8 s.body };
  mi = record { 0 = take 12 (drop 8 s.body) };
  mn = big_number 4 (take 4 (drop 12 (drop 8 s.body)));
  agility = take 4 (drop 4 (drop 12 (drop 8 s.body)));
  ckn = drop 4 (drop 4 (drop 12 (drop 8 s.body)));
}

pub basic_in-long : (s : Set) → (leb 29 (length s.body) && leb (length s.body) 60) ≡ true → 29 ≤ length s.body → basic_in s ≡ Some (basics_in s)
unfolding basic_in sci_at mi_at number_at
basic_in-long s both le =
    let a = length-drop 8 s.body in
    let b = length-drop 12 (drop 8 s.body) in
    let c = length-drop 4 (drop 12 (drop 8 s.body)) in
    rw (both, octets_at-long 8 s.body (omega (arith, le)), octets_at-long 12 (drop 8 s.body) (omega (arith, le, a)), octets_at-long 4 (drop 12 (drop 8 s.body)) (omega (arith, le, a, b)), octets_at-long 4 (drop 4 (drop 12 (drop 8 s.body))) (omega (arith, le, a, b, c))) refl

basic_in-not : (s : Set) → (leb 29 (length s.body) && leb (length s.body) 60) ≡ false → basic_in s ≡ None
unfolding basic_in
basic_in-not s misfit = rw misfit refl

module _ (octets : List ℕ) where
  abbrev len : ℕ
  len = front_length octets

  abbrev fits : Bool
  fits = leb 29 len && leb len 60

  abbrev found : Basics × List ℕ
  found = (basics_in (front_set octets), drop (front_size octets) octets)

  fits_in_front : is_whole octets ≡ true → (b : Bool) → fits ≡ b → (leb 29 (length (take len (drop 4 octets))) && leb (length (take len (drop 4 octets))) 60) ≡ b
  fits_in_front w b e = ap (λ (n : ℕ). leb 29 n && leb n 60) (length-front_set octets w) ∙ e

  pub basic_at-fits : is_whole octets ≡ true → fits ≡ true → basic_at octets ≡ Some found
  unfolding basic_at
  basic_at-fits w e =
      let long : 29 ≤ length (take len (drop 4 octets)) = rw (length-front_set octets w) (fits-29 (leb 29 len) (leb len 60) e refl) in
      rw (set_at-whole octets w, basic_in-long (front_set octets) (fits_in_front w true e) long) refl where
        fits-29 : (a b : Bool) → (a && b) ≡ true → leb 29 len ≡ a → 29 ≤ len
        fits-29 true b f d = leb-true 29 len d
        fits-29 false b f d = absurd cc

  pub basic_at-not : (w : Bool) → is_whole octets ≡ w → (w && fits) ≡ false → basic_at octets ≡ None
  unfolding basic_at
  basic_at-not true w e = rw (set_at-whole octets w, basic_in-not (front_set octets) (fits_in_front w false e)) refl
  basic_at-not false w e = rw (set_at-not octets w) refl

  -- the agility stands at octets 28 to 31
  agility_at : 28 ≤ len → take 4 (take 4 (drop 4 (drop 12 (drop 8 (take len (drop 4 octets)))))) ≡ take 4 (drop 28 octets)
  agility_at le = go len le where
    go : (n : ℕ) → 28 ≤ n → take 4 (take 4 (drop 4 (drop 12 (drop 8 (take n (drop 4 octets)))))) ≡ take 4 (drop 28 octets)
    go n le =
        let behind : drop 4 (drop 12 (drop 8 (take n (drop 4 octets)))) ≡ drop 24 (take n (drop 4 octets)) = ap (drop 4) (drop-drop 12 8 (take n (drop 4 octets))) ∙ drop-drop 4 20 (take n (drop 4 octets)) in
        let parts : drop 24 (take n (drop 4 octets)) ≡ take (n - 24) (drop 24 (drop 4 octets)) = ap (λ (k : ℕ). drop 24 (take k (drop 4 octets))) (omega (arith, le)) ∙ drop-take 24 (n - 24) (drop 4 octets) in
        ap (λ (x : List ℕ). take 4 (take 4 x)) (behind ∙ parts) ∙ take-take 4 4 (take (n - 24) (drop 24 (drop 4 octets))) (omega arith)
        ∙ take-take 4 (n - 24) (drop 24 (drop 4 octets)) (omega (arith, le)) ∙ ap (take 4) (drop-drop 24 4 octets)

  pub known-is : 28 ≤ len → is_known (basics_in (front_set octets)).agility ≡ is_known (drop 28 octets)
  known-is le = ap (pointwise eqb agility) (agility_at le)

-- what a Basic Parameter Set that is read gives
pub basic_at-is : (octets : List ℕ) → is_basic octets ≡ true → (basic_at octets ≡ Some (basics_in (front_set octets), drop (front_size octets) octets)) × (29 ≤ front_length octets) × (is_whole octets ≡ true)
basic_at-is octets e =
    let p = and_parts (is_whole octets) (leb 29 (front_length octets) && leb (front_length octets) 60) e in
    let q = and_parts (leb 29 (front_length octets)) (leb (front_length octets) 60) p.1 in
    (basic_at-fits octets p.0 p.1, leb-true 29 (front_length octets) q.0, p.0)

-- ---- the whole frame

none_met : HasMet nothing []
none_met k single = go (kinds k) where
  go : Kinds k → is_some (slot k nothing) ≡ false
  go (inl e) = rw e refl
  go (inr (inl e)) = rw e refl
  go (inr (inr (inl e))) = rw e refl
  go (inr (inr (inr (inl e)))) = rw e refl
  go (inr (inr (inr (inr o)))) = absurd (let no_place : true ≡ false = sym single ∙ o.single in cc)

-- the end of reading: the agility, where the sets gave no refusal
agility_last : (X : Type 0) (others : Result X Refusal) (agile : Bool) (known : Bool) (last : X → Spelled) → known ≡ agile
    → or_else (error_of others) (cond agile None (Some Agility)) ≡ error_of (others >>= λ o. cond (not known) (Err Agility) (Ok (last o)))
agility_last X (Ok o) true known last e = rw e refl
agility_last X (Ok o) false known last e = rw e refl
agility_last X (Err d) agile known last e = refl

pub refused-is : (frame : List ℕ) → refused frame ≡ error_of (reading frame)
unfolding refused reading parts_at
refused-is frame =
    elim (is_mka frame) as (λ t. is_mka frame ≡ t → refused frame ≡ error_of (reading frame)) [
      | false ↦ λ m. rw m refl
      | true ↦ λ m. elim (is_long_enough frame) as (λ t. is_long_enough frame ≡ t → refused frame ≡ error_of (reading frame)) [
        | false ↦ λ l. rw (m, l) refl
        | true ↦ λ l. elim (is_basic (sets_of frame)) as (λ t. is_basic (sets_of frame) ≡ t → refused frame ≡ error_of (reading frame)) [
          | false ↦ λ b. rw (m, l, b, basic_at-not (sets_of frame) (is_whole (sets_of frame)) refl b) refl
          | true ↦ λ b.
              let basic = basic_at-is (sets_of frame) b in
              let tie = refused_sets-is (length (others_of frame)) (check_place frame) (others_of frame) nothing [] none_met in
              let known = known-is (sets_of frame) (omega (arith, basic.1)) in
              rw (m, l, b, basic.0, tie) (agility_last Gathered (gathered (length (others_of frame)) (check_place frame) nothing (others_of frame)) (is_known (drop 28 (sets_of frame))) (is_known (basics_in (front_set (sets_of frame))).agility) _ known)
        ] refl
      ] refl
    ] refl

pub refused_exactly : (frame : List ℕ) (e : Refusal) → ((refused frame ≡ Some e) → (reading frame ≡ Err e)) × ((reading frame ≡ Err e) → (refused frame ≡ Some e))
refused_exactly frame e = (λ r. back (reading frame) (sym (refused-is frame) ∙ r), λ r. refused-is frame ∙ ap error_of r) where
  back : (r : Result Spelled Refusal) → error_of r ≡ Some e → r ≡ Err e
  back (Ok s) d = absurd cc
  back (Err f) d = let same : f ≡ e = cc in ap Err same

-- ---- want of memory is no refusal of a frame
