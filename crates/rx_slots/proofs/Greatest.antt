-- The greatest of numbers, and of what is left of them under a window.
use Rattle.std.proofs.Common.{◌≡◌, ℕ, ◌+◌, ◌-◌, ◌≤◌, max, map, List, [], ◌∷◌, arith}
use Rattle.rx_slots.specs.Numbers.{Taken, greatest}

-- the greatest less the window is the greatest of each less the window
pub greatest-less : (window : ℕ) (ts : List Taken)
    → max 1 (greatest (map (λ t. t.pn + 1) ts) - window) ≡ greatest (map (λ t. (t.pn + 1) - window) ts)
greatest-less window [] = omega arith
greatest-less window (t ∷ ts) =
    let more : max 1 (greatest (map (λ (t : Taken). t.pn + 1) ts) - window) ≡ greatest (map (λ (t : Taken). (t.pn + 1) - window) ts) = greatest-less window ts in
    omega arith
