-- How a text is read and its lines are taken (this profile's own rule).
use Rattle.std.specs.Prelude.{◌≡◌, ◌⊎◌, ℕ, ◌<◌, ◌≤◌, nat_le, if◌then◌else◌, List, ◌++◌, length, take}
use Rattle.std.specs.Prelude.{Option, Some, [], Result, Ok, Err}
use Rattle.lan_base.specs.Faults.{Rose}
use Rattle.lan_base.specs.Told.{before, IsUsedUp}
use Rattle.text_lines.specs.declared.reading.End.{End}
use Rattle.text_lines.specs.declared.reading.End.TheVariants.{Refused, Memory, ReadFault, Limit}
use Rattle.text_lines.specs.Texts.{whole_lines, lines_of}

-- a source at a moment: what is left in it, and its count of faults
pub record Sourced : Type 0 where
  pub left : Option (List ℕ)
  pub faults : ℕ

abbrev pub sourced : Option (List ℕ) → ℕ → Sourced
sourced left faults = record { left = left; faults = faults }

-- the greatest count of octets that are asked for at a time
abbrev pub most_at_once : ℕ
most_at_once = 4096

-- the lines of a text, of which those count that end within the limit
abbrev pub lines_within : ℕ → List ℕ → List (List ℕ)
lines_within limit text =
    if nat_le (length text) limit then lines_of text else whole_lines (take limit text)

-- a front of lines was taken
pub record TookFront {T E : Type 0} (Did : List (List ℕ) → T → T → Result (Unit {0}) E → Type 0)
    (lines : List (List ℕ)) (old new : T) : Type 0 where
  pub front : List (List ℕ)
  pub rest : List (List ℕ)
  pub parts : front ++ rest ≡ lines
  pub did : Did front old new (Ok tt)

-- ---- whatever the source tells

-- the lines that are to be handed on: those that end in what was taken, within the limit, or at the
-- end of the source all
abbrev pub AreDue : ℕ → List ℕ → Option (List ℕ) → List (List ℕ) → Type 0
AreDue limit taken left lines =
    (lines ≡ whole_lines (take limit taken))
    ⊎ (IsUsedUp left × (length taken ≤ limit) × (lines ≡ lines_of taken))

-- How reading ends when these octets were taken, and these lines handed on, the last of them since
-- an earlier moment.
abbrev pub Ends : {T E : Type 0} → (List (List ℕ) → T → T → Result (Unit {0}) E → Type 0) → ℕ
    → List ℕ → List (List ℕ) → List (List ℕ) → Sourced → Sourced → T → T
    → Result (Unit {0}) (End E) → Type 0
Ends Did limit taken lines last left now earlier new (Ok done) =
    (length taken ≤ limit) × IsUsedUp now.left × (lines ≡ lines_of taken)
    × Did last earlier new (Ok tt)
Ends Did limit taken lines last left now earlier new (Err (Refused e)) =
    AreDue limit taken now.left lines × Did last earlier new (Err e)
Ends Did limit taken lines last left now earlier new (Err Memory) =
    AreDue limit taken now.left lines × TookFront Did last earlier new
Ends Did limit taken lines last left now earlier new (Err ReadFault) =
    Rose left.faults now.faults × (length taken ≤ limit) × (lines ≡ whole_lines taken)
    × Did last earlier new (Ok tt)
Ends Did limit taken lines last left now earlier new (Err Limit) =
    (limit < length taken) × (lines ≡ whole_lines (take limit taken))
    × Did last earlier new (Ok tt)

-- Octets were taken: earlier ones, within the limit, and then a piece that was asked for at once.
-- All lines that end in the earlier ones were taken before that.
pub record Takes {T E : Type 0} (Did : List (List ℕ) → T → T → Result (Unit {0}) E → Type 0)
    (limit : ℕ) (left now : Sourced) (old new : T) (result : Result (Unit {0}) (End E))
    : Type 0 where
  pub earlier : List ℕ
  pub piece : List ℕ
  pub moved : left.left ≡ before (earlier ++ piece) now.left
  pub within : length earlier ≤ limit
  pub at_once : length piece ≤ most_at_once
  pub between : T
  pub taken : Did (whole_lines earlier) old between (Ok tt)
  pub last : List (List ℕ)
  pub ends : Ends Did limit (earlier ++ piece) (whole_lines earlier ++ last) last left now between
      new result

-- ---- of a text that the source tells

-- All was taken; or a line was refused; or no memory was left; or the source failed; or an octet past
-- the limit was taken.
abbrev pub Runs : {T E : Type 0} → (List (List ℕ) → T → T → Result (Unit {0}) E → Type 0) → ℕ
    → List ℕ → Sourced → Sourced → T → T → Result (Unit {0}) (End E) → Type 0
Runs Did limit text left now old new (Ok done) =
    (length text ≤ limit) × (now.left ≡ Some []) × Did (lines_of text) old new (Ok tt)
Runs Did limit text left now old new (Err (Refused e)) =
    Did (lines_within limit text) old new (Err e)
Runs Did limit text left now old new (Err Memory) = TookFront Did (lines_within limit text) old new
Runs Did limit text left now old new (Err ReadFault) =
    Rose left.faults now.faults × ((taken : List ℕ) × (left.left ≡ before taken now.left)
    × (length taken ≤ limit) × Did (whole_lines taken) old new (Ok tt))
Runs Did limit text left now old new (Err Limit) =
    (limit < length text) × Did (whole_lines (take limit text)) old new (Ok tt)

-- which octets and lines were taken, whatever the source tells, and how a text that it tells was read
pub record Reads {T E : Type 0} (Did : List (List ℕ) → T → T → Result (Unit {0}) E → Type 0)
    (limit : ℕ) (left now : Sourced) (old new : T) (result : Result (Unit {0}) (End E))
    : Type 0 where
  pub takes : Takes Did limit left now old new result
  pub runs : (text : List ℕ) → left.left ≡ Some text → Runs Did limit text left now old new result
