-- Tests of a list that another one is seen as.
use Rattle.std.specs.Prelude.{not, ◌||◌, nat_lt, slice_get}
use Rattle.std.specs.List.{list_any, position, position_or_len, prefix_len}
use Rattle.std.proofs.Common.{◌≡◌, ℕ, zero, suc, ◌+◌, Bool, cond, List, [], ◌∷◌, length, get_or, map, Some, None, refl, ap, ◌∙◌}
use Rattle.std.proofs.lemmas.List.{length-map}

module _ {X Y : Type 0} where
  pub any-map : (p : Y → Bool) (f : X → Y) (xs : List X) → list_any p (map f xs) ≡ list_any (λ x. p (f x)) xs
  any-map p f [] = refl
  any-map p f (x ∷ xs) = ap (λ b. p (f x) || b) (any-map p f xs)

  prefix-map : (p : Y → Bool) (f : X → Y) (xs : List X) → prefix_len p (map f xs) ≡ prefix_len (λ x. p (f x)) xs
  prefix-map p f [] = refl
  prefix-map p f (x ∷ xs) = ap (λ n. cond (p (f x)) (1 + n) 0) (prefix-map p f xs)

  pub position-map : (p : Y → Bool) (f : X → Y) (xs : List X) → position p (map f xs) ≡ position (λ x. p (f x)) xs
  position-map p f xs =
      ap (λ n. cond (nat_lt n (length (map f xs))) (Some n) None) (prefix-map (λ y. not (p y)) f xs)
      ∙ ap (λ m. cond (nat_lt (position_or_len (λ x. p (f x)) xs) m) (Some (position_or_len (λ x. p (f x)) xs)) None) (length-map xs f)

  -- what stands at a place of the seen list is seen of what stands there
  pub at-map : (f : X → Y) (xs : List X) (i : ℕ) (d : X) (y : Y) → slice_get (map f xs) i ≡ Some y → f (get_or xs i d) ≡ y
  at-map f [] i d y e = absurd (cc)
  at-map f (x ∷ xs) zero d y e = cc
  at-map f (x ∷ xs) (suc i) d y e = at-map f xs i d y e
