-- A verdict names the least pair that breaks exactly where one does.
use Rattle.std.proofs.Common.{◌≡◌, ◌↔◌, ℕ, Option, Some, None, subst}
use Rattle.least_pairs.specs.Pairs.{IsJudged, IsLeast}
use Rattle.least_pairs.proofs.Public.{one-verdict}

module _ (Broken : ℕ → ℕ → Type 0) (o : Option (ℕ × ℕ)) (is : IsJudged Broken o) where
  pub names-least : (i j : ℕ) → (o ≡ Some (i, j)) ↔ IsLeast Broken i j
  names-least i j = (
    λ e. subst (λ (p : Option (ℕ × ℕ)). IsJudged Broken p) e is,
    λ least. one-verdict Broken o (Some (i, j)) is least,
  )

  pub names-none : (o ≡ None) ↔ ((i j : ℕ) → Broken i j → ⊥)
  names-none = (
    λ e. subst (λ (p : Option (ℕ × ℕ)). IsJudged Broken p) e is,
    λ none. one-verdict Broken o None is none,
  )
