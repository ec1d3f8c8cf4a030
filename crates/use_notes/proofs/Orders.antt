-- Numbers added as far as they can be counted.
use Rattle.std.proofs.Common.{◌≡◌, ◌∙◌, ◌+◌, ℕ, List, [], ◌∷◌, min, refl, ap, arith}
use Rattle.std.specs.Prelude.{fold, sum_by}
use Rattle.use_notes.specs.declared.notes.Use.{Use}

abbrev most : ℕ
most = 18446744073709551615

capped-more : (a n : ℕ) → min (min a most + n) most ≡ min (a + n) most
capped-more a n = omega arith

capped-from : (us : List Use) (a : ℕ) → fold (λ (n : ℕ) (u : Use). min (n + u.counts.fell) most) (min a most) us
    ≡ min (fold (λ (n : ℕ) (u : Use). n + u.counts.fell) a us) most
capped-from [] a = refl
capped-from (u ∷ us) a =
    ap (λ b. fold (λ (n : ℕ) (u : Use). min (n + u.counts.fell) most) b us) (capped-more a u.counts.fell)
    ∙ capped-from us (a + u.counts.fell)

pub capped : (us : List Use) → fold (λ (n : ℕ) (u : Use). min (n + u.counts.fell) most) 0 us
    ≡ min (sum_by (λ u. u.counts.fell) us) most
capped us = capped-from us 0
