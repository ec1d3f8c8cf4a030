-- The names after a line, by what its words are.
use Rattle.std.specs.Prelude.{ℕ, ◌≡◌, ◌==◌, Bool, false, if◌then◌else◌, nat_lt, List, [], ◌∷◌, ◌++◌, length, codes, Option, Some, None, is_some, Result, Ok, Err}
use Rattle.std.specs.List.{slice_split}
use Rattle.lan_base.specs.Name.{is_name}
use Rattle.lan_core.specs.declared.fact.Fact.{Fact}
use Rattle.transcript.specs.declared.fault.FactError.{FactError}
use Rattle.transcript.specs.declared.fault.FactError.TheVariants.{Unread}
use Rattle.transcript.specs.Naming.{most_named}
use Rattle.transcript.specs.inside.Reading.{and_then, kept_if, after, parted, is_space, station_of, fact_in}
use Rattle.transcript.specs.inside.Taking.{Answers, IsForFrame}

-- the name that words of a `life` line give
abbrev pub name_of : List (List ℕ) → Option (List ℕ)
name_of words =
    and_then (after (codes "life") words)
    (λ others. and_then (parted others) (λ x. kept_if (is_name x.0) x.0))

abbrev pub name_in : List ℕ → Option (List ℕ)
name_in line = name_of (slice_split is_space line)

-- no other line gives a name
abbrev pub begins_as_life : List ℕ → Bool
begins_as_life [] = false
begins_as_life (first ∷ rest) = first == 108

-- the names with one that is not known, if there is room for it
abbrev pub grown_by : List (List ℕ) → Option (List ℕ) → Option (List (List ℕ))
grown_by names None = Some names
grown_by names (Some name) =
    if is_some (station_of names name) then Some names
    else kept_if (nat_lt (length names) most_named) (names ++ name ∷ [])

-- what is answered to a line, and which names there are then, if these would be there after it
abbrev pub Answered : List (List ℕ) → List ℕ → List (List ℕ) → Result Fact FactError
    → Option (List (List ℕ)) → Type 0
Answered names line now r None = (r ≡ Err Unread) × (now ≡ names)
Answered names line now (Ok fact) (Some after) = (now ≡ after) × (fact_in after line ≡ Some fact)
Answered names line now (Err fault) (Some after) =
    (now ≡ names) × Answers (λ x. x) (Err fault) (fact_in after line)
    × IsForFrame fault (fact_in after line)
