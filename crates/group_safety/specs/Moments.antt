-- Moments (this profile's own word): a run stands newest first, and a moment is how many of its
-- events have come.
use Rattle.std.specs.Prelude.{◌≡◌, suc, ℕ, List, [], ◌∷◌, length, nat_lt, if◌then◌else◌}

-- the run at a moment: its oldest events
unfoldable pub upto : {A : Type 0} → ℕ → List A → List A
upto n [] = []
upto n (x ∷ r) = if nat_lt (length r) n then x ∷ r else upto n r

-- the event that comes at a moment
abbrev pub At : {A : Type 0} → List A → ℕ → A → Type 0
At run n x = upto (suc n) run ≡ x ∷ upto n run
