-- The turns of a supply (this profile's own rule): more is asked for only while what it had is too little for
-- the call.
use Rattle.std.specs.Prelude.{◌≡◌, ◌⊎◌, ℕ, ◌<◌, List, [], ◌∷◌, ◌++◌, length, Option, Some, None, Result, Ok, Err}
use Rattle.lan_base.specs.declared.source.ReadEnd.{ReadEnd}
use Rattle.lan_base.specs.declared.source.ReadEnd.TheVariants.{Limit, Failed, Memory}
use Rattle.text_lines.specs.Turns.{octets_of}

-- fewer octets than so many
abbrev pub Fewer : ℕ → List ℕ → Type 0
Fewer count had = length had < count

-- Behind these octets these pieces were given, one a read, none of them empty. Before each read the octets
-- and the pieces so far were too little.
abbrev pub Asked : {S : Type 0} → (S → Option (List ℕ) → S → Type 0) → (List ℕ → Type 0) → List ℕ
    → List (List ℕ) → S → S → Type 0
Asked Gave IsShort had [] s s_then = s_then ≡ s
Asked Gave IsShort had ([] ∷ pieces) s s_then = ⊥
Asked {S = S} Gave IsShort had ((x ∷ xs) ∷ pieces) s s_then =
    IsShort had × ((between : S) × Gave s (Some (x ∷ xs)) between
    × Asked Gave IsShort (had ++ x ∷ xs) pieces between s_then)

-- What was asked for last, behind these octets: nothing; or, where they were too little, once more, and
-- nothing came, at the end of the source, or by its fault.
abbrev pub LastAsked : {S X : Type 0} → (S → Option (List ℕ) → S → Type 0) → (List ℕ → Type 0) → List ℕ
    → S → S → Result X ReadEnd → Type 0
LastAsked Gave IsShort had s s_then (Ok done) = (s_then ≡ s) ⊎ (IsShort had × Gave s (Some []) s_then)
LastAsked Gave IsShort had s s_then (Err Limit) = (s_then ≡ s) ⊎ (IsShort had × Gave s (Some []) s_then)
LastAsked Gave IsShort had s s_then (Err Memory) = (s_then ≡ s) ⊎ (IsShort had × Gave s (Some []) s_then)
LastAsked Gave IsShort had s s_then (Err Failed) = IsShort had × Gave s None s_then

-- a call that began with these octets held asked in turn
pub record AsksInTurn {S X : Type 0} (Gave : S → Option (List ℕ) → S → Type 0) (IsShort : List ℕ → Type 0)
    (held : List ℕ) (s s_then : S) (result : Result X ReadEnd) : Type 0 where
  pub pieces : List (List ℕ)
  pub between : S
  pub asked : Asked Gave IsShort held pieces s between
  pub last : LastAsked Gave IsShort (held ++ octets_of pieces) between s_then result
