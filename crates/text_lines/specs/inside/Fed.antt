-- What was handed on of lines.
use Rattle.std.specs.Prelude.{ℕ, ◌==◌, ◌≡◌, ◌<◌, true, List, length, slice_index, Result, Ok, Err}
use Rattle.text_lines.specs.declared.reading.End.{End}
use Rattle.text_lines.specs.declared.reading.End.TheVariants.{Refused, Memory, ReadFault, Limit}
use Rattle.text_lines.specs.Reading.{TookFront}

-- no octet is a line feed
abbrev pub HasNoFeed : List ℕ → Type 0
HasNoFeed octets = (k : ℕ) → k < length octets → (slice_index octets k == 10) ≡ true → ⊥

-- lines were handed on, and the taker took them, or refused one; or no memory was left
abbrev pub Fed : {T E : Type 0} → (List (List ℕ) → T → T → Result (Unit {0}) E → Type 0)
    → List (List ℕ) → T → T → Result (Unit {0}) (End E) → Type 0
Fed Did lines old new (Ok done) = Did lines old new (Ok tt)
Fed Did lines old new (Err (Refused e)) = Did lines old new (Err e)
Fed Did lines old new (Err Memory) = TookFront Did lines old new
Fed Did lines old new (Err ReadFault) = ⊥
Fed Did lines old new (Err Limit) = ⊥

abbrev pub limited : {E : Type 0} → Result (Unit {0}) (End E) → Result (Unit {0}) (End E)
limited (Ok done) = Err Limit
limited (Err end) = Err end
