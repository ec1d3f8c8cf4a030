-- Answers that were collected in the order of what was asked.
use Rattle.std.proofs.Common.{◌≡◌, List, [], ◌∷◌, map, Result, Ok, refl}
use Rattle.std.specs.Prelude.{IfOk}
use Rattle.std.specs.List.{AllZip}

-- where each is answered by a function, the answers are those of the list
pub answered : (E : Type 0) {A B : Type 0} (f : A → B) (xs : List A) (ys : List B)
    → AllZip (λ x (r : Result B E). IfOk r (λ y. y ≡ f x)) xs (map Ok ys) → ys ≡ map f xs
answered E f [] [] all = refl
answered E f [] (y ∷ ys) all = absurd all
answered E f (x ∷ xs) [] all = absurd all
answered E f (x ∷ xs) (y ∷ ys) all = λ i. all.0 i ∷ answered E f xs ys all.1 i
