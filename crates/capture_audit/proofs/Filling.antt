-- Where there is no key too many.
use Rattle.std.proofs.Common.{◌≡◌, ◌<◌, ◌≤◌, ◌⊎◌, inl, inr, ℕ, Ok, Err}
use Rattle.std.specs.Prelude.{◌↔◌}
use Rattle.std.proofs.lemmas.Bool.{cases_lt}

pub not-full : {X E : Type 0} (x : X) (e : E) (n : ℕ) → (Ok x ≡ Err e) ↔ (4096 < n) → n ≤ 4096
not-full x e n full = go (cases_lt 4096 n)
  where
    go : (4096 < n) ⊎ (n ≤ 4096) → n ≤ 4096
    go (inl more) = absurd (cc (full.1 more))
    go (inr few) = few
