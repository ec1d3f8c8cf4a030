-- What the steps of control say of one moment among them.
use Rattle.std.specs.Prelude.{◌≡◌, ◌⊎◌, ◌<◌, ◌≤◌, ℕ, zero, suc, ◌==◌, true, if◌then◌else◌, List, []}
use Rattle.std.specs.Prelude.{◌∷◌}
use Rattle.std.specs.List.{AllByRecursion}
use Rattle.worker_races.specs.merge.Places.{Move}

-- what transmits at s after n steps
unfoldable pub stands : ℕ → ℕ → List Move → ℕ → ℕ
stands s t [] n = t
stands s t (m ∷ ms) zero = t
stands s t (m ∷ ms) (suc n) = stands s (if m.station == s then m.after else t) ms n

-- the first step of s from n on, if any, drops the key that transmits and begins another
unfoldable pub Replaced : ℕ → List Move → ℕ → Type 0
Replaced s [] n = ⊥
Replaced s (m ∷ ms) zero =
    ((m.station ≡ s) × (m.gap ≡ true)) ⊎ ((m.station ≡ s → ⊥) × Replaced s ms zero)
Replaced s (m ∷ ms) (suc n) = Replaced s ms n

-- the step at a place
abbrev pub IsAt : List Move → ℕ → Move → Type 0
IsAt [] n m = ⊥
IsAt (x ∷ ms) zero m = x ≡ m
IsAt (x ∷ ms) (suc n) m = IsAt ms n m

-- what ticks of one station show under one epoch does not fall
abbrev pub Grows : Move → Move → Type 0
Grows a b = b.station ≡ a.station → b.before ≡ a.before → 0 < b.shown → a.shown ≤ b.shown

abbrev pub AllGrow : List Move → Type 0
AllGrow [] = Unit {0}
AllGrow (m ∷ ms) = AllByRecursion (Grows m) ms × AllGrow ms
