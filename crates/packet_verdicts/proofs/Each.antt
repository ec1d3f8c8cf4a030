-- Lists that agree at each place.
use Rattle.std.proofs.Common.{◌≡◌, ℕ, suc, ◌<◌, List, [], ◌∷◌, length, get_or, map, refl, arith}

pub each-map : {X Z : Type 0} (f g : X → Z) (xs ys : List X) → length ys ≡ length xs
    → ((k : ℕ) (d : X) → k < length xs → f (get_or ys k d) ≡ g (get_or xs k d)) → map f ys ≡ map g xs
each-map f g [] [] len each = refl
each-map f g [] (y ∷ ys) len each = absurd (omega arith)
each-map f g (x ∷ xs) [] len each = absurd (omega arith)
each-map f g (x ∷ xs) (y ∷ ys) len each =
    λ i. each 0 x (omega arith) i ∷ each-map f g xs ys (omega arith) (λ k d lt. each (suc k) d (omega arith)) i
