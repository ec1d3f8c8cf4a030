-- What one read of a source gave (this profile's own rule): a piece, which is empty only at the end, or
-- none: a fault.
use Rattle.std.specs.Prelude.{◌≡◌, ℕ, [], List, take, Option, Some, None, Result, Ok, Err}
use Rattle.lan_base.specs.declared.source.Failed.{Failed}
use Rattle.lan_base.specs.Faults.{one_more}
use Rattle.lan_base.specs.Told.{before, IsUsedUp}

-- by its answer, and what stands in the slice behind it
abbrev pub given : Result ℕ Failed → List ℕ → Option (List ℕ)
given (Ok count) into = Some (take count into)
given (Err failed) into = None

-- of a source that may tell what it has left, and counts its faults: a piece is the front of what was
-- left, and a fault takes nothing
abbrev pub GaveOf : Option (List ℕ) → ℕ → Option (List ℕ) → Option (List ℕ) → ℕ → Type 0
GaveOf left faults (Some piece) left_then faults_then =
    (left ≡ before piece left_then) × (piece ≡ [] → IsUsedUp left) × (faults_then ≡ faults)
GaveOf left faults None left_then faults_then =
    (left_then ≡ left) × (faults_then ≡ one_more faults)
