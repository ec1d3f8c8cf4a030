-- No frame has more octets than all frames together.
use Rattle.std.proofs.Common.{◌≡◌, ◌≤◌, ℕ, zero, suc, List, [], ◌∷◌, map, length, Some, ap, arith}
use Rattle.std.proofs.lemmas.List.Sums.{sum_by-cons}
use Rattle.std.specs.Prelude.{sum, slice_get}

pub one-of-all : (frames : List (List ℕ)) (place : ℕ) (frame : List ℕ)
    → slice_get frames place ≡ Some frame → length frame ≤ sum (map length frames)
one-of-all [] place frame there = absurd (cc there)
one-of-all (f ∷ fs) zero frame there =
    let same : length f ≡ length frame = ap length (cc there) in
    let all = sum_by-cons (λ n. n) (length f) (map length fs) in
    omega (arith, same, all)
one-of-all (f ∷ fs) (suc place) frame there =
    let later = one-of-all fs place frame there in
    let all = sum_by-cons (λ n. n) (length f) (map length fs) in
    omega (arith, later, all)
