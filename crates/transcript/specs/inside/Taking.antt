-- What a private reader answers, beside what the definitions give.
use Rattle.std.specs.Prelude.{ℕ, ◌≡◌, ◌⊎◌, List, [], ◌∷◌, Option, Some, None, IsSome, IfSome, Result, Ok, Err}
use Rattle.std.specs.List.{slice_split}
use Rattle.transcript.specs.declared.fault.FactError.{FactError}
use Rattle.transcript.specs.declared.fault.FactError.TheVariants.{Unread, Memory}
use Rattle.lan_core.specs.declared.fact.Fact.{Fact}
use Rattle.transcript.specs.Rendering.{IsOfFrame}
use Rattle.transcript.specs.inside.Reading.{is_space}

-- the words behind a word: each stands behind one space
abbrev pub words_behind : List ℕ → List (List ℕ)
words_behind [] = []
words_behind (space ∷ octets) = slice_split is_space octets

-- what is given was answered, as the view shows it
abbrev pub Takes : {X Y : Type 0} → (X → Y) → Option X → Option Y → Type 0
Takes view None given = given ≡ None
Takes view (Some x) given = given ≡ Some (view x)

-- what is given was answered, as the view shows it, or memory was wanting where a value is given
abbrev pub Answers : {X Y : Type 0} → (X → Y) → Result X FactError → Option Y → Type 0
Answers view (Ok x) given = given ≡ Some (view x)
Answers view (Err fault) given =
    ((fault ≡ Unread) × (given ≡ None)) ⊎ ((fault ≡ Memory) × IsSome given)

-- memory is wanting for the octets of a frame alone
abbrev pub IsForFrame : FactError → Option Fact → Type 0
IsForFrame Unread given = Unit {0}
IsForFrame Memory given = IfSome given IsOfFrame
