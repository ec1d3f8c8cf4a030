-- The parts of a frame by its header.
use Rattle.std.specs.Prelude.{◌&&◌, if◌then◌else◌}
use Rattle.std.proofs.Common.{◌≡◌, ℕ, ◌+◌, ◌-◌, ◌%◌, ◌≤◌, true, leb, eqb, List, length, length-take, length-drop, take, drop, Some, None, Ok, refl, sym, ap, ◌∙◌, arith}
use Rattle.std.proofs.lemmas.Bool.{leb-true, and_parts}
use Rattle.std.proofs.lemmas.List.{drop-drop}
use Rattle.mkpdu_codec.specs.Refusals.{is_mka, is_long_enough, body_length, check_place, sets_of}
use Rattle.mkpdu_codec.specs.Reading.{Inner, check_value, parts_at}

pub long_enough-32 : (frame : List ℕ) → is_long_enough frame ≡ true → 32 ≤ body_length frame
long_enough-32 frame e =
    leb-true 32 (body_length frame) (and_parts (leb 32 (body_length frame)) (eqb (body_length frame % 4) 0) (and_parts (leb 32 (body_length frame) && eqb (body_length frame % 4) 0) (leb (18 + body_length frame) (length frame)) e).0).0

abbrev inner : List ℕ → List ℕ → ℕ → List ℕ → Inner
inner source sets covered check = record { source = record { 0 = source }; sets = sets; covered = covered; check = check }

pub long_enough-whole : (frame : List ℕ) → is_long_enough frame ≡ true → 18 + body_length frame ≤ length frame
long_enough-whole frame e =
    leb-true (18 + body_length frame) (length frame) (and_parts (leb 32 (body_length frame) && eqb (body_length frame % 4) 0) (leb (18 + body_length frame) (length frame)) e).1

-- the sets end where the check value begins
pub length-sets_of : (frame : List ℕ) → is_long_enough frame ≡ true → 18 + length (sets_of frame) ≡ check_place frame
length-sets_of frame e =
    let long = long_enough-32 frame e in
    let whole = long_enough-whole frame e in
    lengths (body_length frame) long whole where
      lengths : (n : ℕ) → 32 ≤ n → 18 + n ≤ length frame → 18 + length (take (n - 16) (drop 18 frame)) ≡ 18 + (n - 16)
      lengths n le within = omega (arith, length-take (n - 16) (drop 18 frame), length-drop 18 frame)

pub parts_are : (frame source sets check : List ℕ) → is_mka frame ≡ true → is_long_enough frame ≡ true
    → source ≡ take 6 (drop 6 frame) → sets ≡ take (body_length frame - 16) (drop 18 frame) → check ≡ take 16 (drop (body_length frame - 16) (drop 18 frame))
    → parts_at frame ≡ Ok (inner source sets (18 + length sets) check)
unfolding parts_at
parts_are frame source sets check m w source-is sets-is check-is =
    let check-at : check ≡ take 16 (drop (check_place frame) frame) = check-is ∙ ap (take 16) (drop-drop (body_length frame - 16) 18 frame) in
    let covered : 18 + length sets ≡ check_place frame = ap (λ (x : List ℕ). 18 + length x) sets-is ∙ length-sets_of frame w in
    rw (m, w, source-is, covered, sets-is, check-at) refl

pub valued : (frame check : List ℕ) → is_mka frame ≡ true → is_long_enough frame ≡ true → check ≡ take 16 (drop (check_place frame) frame)
    → Some check ≡ check_value frame
valued frame check mka long is =
    let there = take 16 (drop (check_place frame) frame) in
    ap (λ (c : List ℕ). Some c) is
    ∙ sym (ap (λ b. if b && is_long_enough frame then Some there else None) mka ∙ ap (λ b. if b then Some there else None) long)
