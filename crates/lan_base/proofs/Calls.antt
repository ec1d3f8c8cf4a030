-- No call past a u64 is listed.
use Rattle.std.proofs.Common.{◌≡◌, ℕ, suc, ◌<◌, ◌≤◌, ◌^◌, List, [], ◌∷◌, false, get_or, refl, arith}
use Rattle.std.proofs.lemmas.Bool.Decides.{nat_tests}
use Rattle.lan_base.specs.InMemory.{is_listed}

pub is_listed-past : (fails : List ℕ) (call : ℕ) → ((k : ℕ) → get_or fails k 0 < 2 ^ 64) → 2 ^ 64 ≤ call → is_listed fails call ≡ false
is_listed-past [] call fit past = refl
is_listed-past (fail ∷ fails) call fit past =
    let rest : is_listed fails call ≡ false = is_listed-past fails call (λ k. fit (suc k)) past in
    let here : fail < 2 ^ 64 = fit 0 in
    grind (arith, nat_tests)
