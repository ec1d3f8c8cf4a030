-- A source and a sink in memory (of this profile's own), whose failing calls are listed by their
-- numbers, from 1.
use Rattle.std.specs.Prelude.{◌≡◌, ℕ, zero, suc, ◌+◌, ◌==◌, List, [], ◌++◌, Option, Some, None, Bool, IsTrue, if◌then◌else◌}
use Rattle.std.specs.List.{list_any}
use Rattle.lan_base.specs.Faults.{one_more}

-- what a source in memory has left, how much it gives a call at most, which calls fail, and how
-- many calls there were
pub record SourceInMemory : Type 0 where
  pub left : List ℕ
  pub piece : ℕ
  pub fails : List ℕ
  pub calls : ℕ

-- what a sink in memory holds, how much it takes a call at most, which calls fail, and how many
-- calls there were
pub record SinkInMemory : Type 0 where
  pub held : List ℕ
  pub piece : ℕ
  pub fails : List ℕ
  pub calls : ℕ

-- the call of this number is to fail
abbrev pub is_listed : List ℕ → ℕ → Bool
is_listed fails call = list_any (λ k. k == call) fails

-- how many of the first calls failed
abbrev pub failures : List ℕ → ℕ → ℕ
failures fails zero = 0
failures fails (suc calls) = failures fails calls + (if is_listed fails (suc calls) then 1 else 0)

-- what one read gave of a source in memory: the front of what was left, empty only at its end; or, in a
-- call that was to fail, nothing. Either is a call
abbrev pub GaveInMemory : SourceInMemory → Option (List ℕ) → SourceInMemory → Type 0
GaveInMemory old (Some piece) new =
    (old.left ≡ piece ++ new.left) × (piece ≡ [] → old.left ≡ [])
    × (new ≡ record old { left = new.left; calls = one_more old.calls })
GaveInMemory old None new =
    IsTrue (is_listed old.fails (old.calls + 1)) × (new ≡ record old { calls = one_more old.calls })

-- the same of one that never fails, of what it has left
abbrev pub GaveSteadily : List ℕ → Option (List ℕ) → List ℕ → Type 0
GaveSteadily old (Some piece) new = (old ≡ piece ++ new) × (piece ≡ [] → old ≡ [])
GaveSteadily old None new = ⊥
