-- Numbers added as far as they can be counted.
use Rattle.std.proofs.Common.{◌≡◌, ◌∙◌, ◌+◌, ℕ, List, [], ◌∷◌, min, refl, ap, arith}
use Rattle.std.specs.Prelude.{fold, sum_by}
use Rattle.audit_report.specs.Readiness.{most_counted}

capped-more : (a n : ℕ) → min (min a most_counted + n) most_counted ≡ min (a + n) most_counted
capped-more a n = omega arith

module _ {X : Type 0} (f : X → ℕ) where
  capped-from : (xs : List X) (a : ℕ)
      → fold (λ (n : ℕ) (x : X). min (n + f x) most_counted) (min a most_counted) xs
      ≡ min (fold (λ (n : ℕ) (x : X). n + f x) a xs) most_counted
  capped-from [] a = refl
  capped-from (x ∷ xs) a =
      ap (λ b. fold (λ (n : ℕ) (x : X). min (n + f x) most_counted) b xs) (capped-more a (f x))
      ∙ capped-from xs (a + f x)

  pub capped : (xs : List X) → fold (λ (n : ℕ) (x : X). min (n + f x) most_counted) 0 xs
      ≡ min (sum_by f xs) most_counted
  capped xs = capped-from xs 0
