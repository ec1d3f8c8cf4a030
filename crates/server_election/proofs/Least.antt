-- What stands for the least of some candidates, and that it is the least.
use Rattle.std.proofs.Common.{◌≡◌, true, false, List, [], ◌∷◌, ◌++◌, Option, None, Some, refl, sym, ap, inl, inr, arith}
use Rattle.std.proofs.lemmas.List.Elements.{All-nil, All-cons, All-weaker, Contains-append_right}
use Rattle.std.proofs.lemmas.Bool.{cases_Bool}
use Rattle.server_election.specs.declared.candidate.Candidate.{Candidate}
use Rattle.server_election.specs.Election.{precedes, first_of, least, IsLeast}
use Rattle.server_election.proofs.Pairs.{precedes-order, precedes-itself, precedes-trans}

-- of three, the first two can be compared first
first_of-first_of : (x y : Candidate) (z : Option Candidate) → first_of x (Some (first_of y z)) ≡ first_of (first_of x (Some y)) z
first_of-first_of x y None = refl
first_of-first_of x y (Some z) =
    elim (cases_Bool (precedes z y)) [
      | inl zy ↦ elim (cases_Bool (precedes y x)) [
        | inl yx ↦ let zx : precedes z x ≡ true = precedes-trans z y x zy yx in simp (zy, yx, zx)
        | inr yx ↦ simp (zy, yx)
      ]
      | inr zy ↦ elim (cases_Bool (precedes y x)) [
        | inl yx ↦ simp (zy, yx)
        | inr yx ↦ let zx : precedes z x ≡ false = precedes-order.chain z y x zy yx in simp (zy, yx, zx)
      ]
    ]

-- the first of two stands for both, whoever comes later
pub least-two : (x y : Candidate) (later : List Candidate) → least (first_of x (Some y) ∷ later) ≡ least (x ∷ y ∷ later)
least-two x y later = ap Some (sym (first_of-first_of x y (least later)))

pub least-nobody : (xs : List Candidate) → least xs ≡ None → xs ≡ []
least-nobody [] none = refl
least-nobody (x ∷ xs) none = cc

IsLeast-one : (x : Candidate) → IsLeast x (x ∷ [])
IsLeast-one x = record {
  one_of_them = (0, omega arith, refl);
  least = All-cons (λ y. precedes y x ≡ false) x [] (precedes-itself x) (All-nil (λ y. precedes y x ≡ false));
}

IsLeast-first : (x y : Candidate) (xs : List Candidate) → precedes y x ≡ false → IsLeast y xs → IsLeast x (x ∷ xs)
IsLeast-first x y xs not is = record {
  one_of_them = (0, omega arith, refl);
  least = All-cons (λ z. precedes z x ≡ false) x xs (precedes-itself x)
      (All-weaker (λ z. precedes z y ≡ false) (λ z. precedes z x ≡ false) (λ z zy. precedes-order.chain z y x zy not) xs is.least);
}

IsLeast-later : (x y : Candidate) (xs : List Candidate) → precedes y x ≡ true → IsLeast y xs → IsLeast y (x ∷ xs)
IsLeast-later x y xs yx is = record {
  one_of_them = Contains-append_right (x ∷ []) xs y is.one_of_them;
  least = All-cons (λ z. precedes z y ≡ false) x xs (precedes-order.one_way y x yx) is.least;
}

IsLeast-first_of : (x : Candidate) (xs : List Candidate) (rest : Option Candidate) → least xs ≡ rest → ((y : Candidate) → rest ≡ Some y → IsLeast y xs) → IsLeast (first_of x rest) (x ∷ xs)
IsLeast-first_of x xs None none is = rw (least-nobody xs none) (IsLeast-one x)
IsLeast-first_of x xs (Some y) some is =
    elim (cases_Bool (precedes y x)) [
      | inl yx ↦ rw yx (IsLeast-later x y xs yx (is y refl))
      | inr yx ↦ rw yx (IsLeast-first x y xs yx (is y refl))
    ]

pub IsLeast-least : (xs : List Candidate) (x : Candidate) → least xs ≡ Some x → IsLeast x xs
IsLeast-least [] x is = cc
IsLeast-least (y ∷ ys) x is =
    let same : first_of y (least ys) ≡ x = cc in
    rw (← same) (IsLeast-first_of y ys (least ys) refl (λ z e. IsLeast-least ys z e))
