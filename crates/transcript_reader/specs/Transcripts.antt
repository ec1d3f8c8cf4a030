-- How a transcript is read from a source, and its facts are taken by a rule (this profile's own rule).
use Rattle.std.specs.Prelude.{ℕ, ◌≡◌, ◌<◌, ◌≤◌, ◌+◌, List, [], ◌∷◌, ◌++◌, length, take, Some, Result, Ok, Err}
use Rattle.lan_base.specs.Faults.{Rose}
use Rattle.lan_base.specs.Told.{before}
use Rattle.lan_core.specs.declared.fact.Fact.{Fact}
use Rattle.text_lines.specs.Texts.{whole_lines, lines_of}
use Rattle.text_lines.specs.Reading.{Sourced, lines_within, most_at_once}
use Rattle.lan_base.specs.Ranges.{most_input}
use Rattle.transcript_reader.specs.Facts.{Known, Tells, nothing}
use Rattle.transcript_reader.specs.Taking.{Rule}
use Rattle.text_lines.specs.declared.unfinished.Unfinished.{Unfinished}
use Rattle.text_lines.specs.declared.unfinished.Unfinished.TheVariants as ends

-- lines that are taken one after another, from what is known, and facts, to what is known then, and others:
-- each tells a fact that is free behind those before it
abbrev pub AreTaken : {F : Type 0} → Rule F → Known → List Fact → List (List ℕ) → Known → List Fact → Type 0
AreTaken rule known facts [] known_then facts_then = (known ≡ known_then) × (facts ≡ facts_then)
AreTaken rule known facts (line ∷ lines) known_then facts_then =
    (after : Known) × (fact : Fact) × Tells known line after fact
    × rule.Free facts fact × AreTaken rule after (facts ++ fact ∷ []) lines known_then facts_then

-- these lines are taken, from the first one on, and this holds of their facts
pub record AreRead {F : Type 0} (rule : Rule F) (Holds : List Fact → Type 0) (lines : List (List ℕ))
    : Type 0 where
  pub known : Known
  pub facts : List Fact
  pub taken : AreTaken rule nothing [] lines known facts
  pub holds : Holds facts

-- the lines before this number are taken, this holds of their facts, and the line of this number is to be
-- refused
pub record IsRefused {F : Type 0} (rule : Rule F) (Holds : List Fact → Type 0) (lines : List (List ℕ))
    (number : ℕ) (why : F) : Type 0 where
  pub earlier : List (List ℕ)
  pub line : List ℕ
  pub later : List (List ℕ)
  pub parts : earlier ++ line ∷ later ≡ lines
  pub number_is : number ≡ length earlier + 1
  pub read : AreRead rule Holds earlier
  pub denied : rule.Denies read.known read.facts line why

-- some of the lines, from the first one on, are taken, and this holds of their facts
pub record IsFrontRead {F : Type 0} (rule : Rule F) (Holds : List Fact → Type 0) (lines : List (List ℕ))
    : Type 0 where
  pub front : List (List ℕ)
  pub later : List (List ℕ)
  pub parts : front ++ later ≡ lines
  pub read : AreRead rule Holds front

-- By the answer, which lines were taken, of whose facts this holds. All of them; or those before the first
-- that is to be refused; or a front, and no memory was left, or the outlet failed. At a fault of the source,
-- and where an octet past the limit was taken, those that end in what was taken, or within the limit.
abbrev pub EndsBy : {F X : Type 0} → Rule F → (List Fact → Type 0) → List ℕ → Sourced → Sourced
    → Result X (Unfinished F) → Type 0
EndsBy rule Holds text left now (Ok answer) =
    (length text ≤ most_input) × (now.left ≡ Some []) × AreRead rule Holds (lines_of text)
EndsBy rule Holds text left now (Err (ends.Refused number why)) =
    IsRefused rule Holds (lines_within most_input text) number why
EndsBy rule Holds text left now (Err ends.Memory) = IsFrontRead rule Holds (lines_within most_input text)
EndsBy rule Holds text left now (Err ends.WriteFault) =
    IsFrontRead rule Holds (lines_within most_input text)
EndsBy rule Holds text left now (Err ends.ReadFault) =
    Rose left.faults now.faults × ((octets : List ℕ) × (left.left ≡ before octets now.left)
    × (length octets ≤ most_input) × AreRead rule Holds (whole_lines octets))
EndsBy rule Holds text left now (Err ends.Limit) =
    (most_input < length text) × AreRead rule Holds (whole_lines (take most_input text))

-- Octets were taken: earlier ones, within the limit, and then a piece that was asked for at once. All
-- lines that end in the earlier ones were taken before that, and this holds of their facts.
pub record IsTakenFrom {F : Type 0} (rule : Rule F) (Held : List Fact → Type 0) (left now : Sourced)
    : Type 0 where
  pub earlier : List ℕ
  pub piece : List ℕ
  pub moved : left.left ≡ before (earlier ++ piece) now.left
  pub within : length earlier ≤ most_input
  pub at_once : length piece ≤ most_at_once
  pub read : AreRead rule Held (whole_lines earlier)

-- A transcript of this text was read, and it ended so: of the facts of the lines that were taken before the
-- last octets the one holds, and of those of all that were taken the other.
pub record EndsReading {F X : Type 0} (rule : Rule F) (Held Holds : List Fact → Type 0) (text : List ℕ)
    (left now : Sourced) (result : Result X (Unfinished F)) : Type 0 where
  pub taken : IsTakenFrom rule Held left now
  pub ends : EndsBy rule Holds text left now result
