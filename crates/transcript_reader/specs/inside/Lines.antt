-- What is done with lines that come behind others.
use Rattle.std.specs.Prelude.{ℕ, ◌≡◌, List, ◌∷◌, ◌++◌, length, Result, Ok, Err}
use Rattle.lan_core.specs.declared.fact.Fact.{Fact}
use Rattle.text_lines.specs.declared.reading.End.{End}
use Rattle.text_lines.specs.declared.reading.End.TheVariants as lines
use Rattle.text_lines.specs.Moments.{Moment, moment}
use Rattle.transcript.specs.declared.fault.FactError.{FactError}
use Rattle.transcript.specs.declared.fault.FactError.TheVariants as readings
use Rattle.transcript_reader.specs.Counting.{number_after}
use Rattle.transcript_reader.specs.Facts.{Known}
use Rattle.transcript_reader.specs.Taking.{Courses, Rule}
use Rattle.transcript_reader.specs.Transcripts.{AreTaken}
use Rattle.transcript_reader.specs.declared.take_error.TakeError.{TakeError}
use Rattle.transcript_reader.specs.declared.take_error.TakeError.TheVariants.{Refused, Failed, Memory}
use Rattle.text_lines.specs.declared.unfinished.Unfinished.{Unfinished}
use Rattle.text_lines.specs.declared.unfinished.Unfinished.TheVariants as ends

-- how a value that reads is seen: what is known from the lines, how many were taken, and who takes facts
pub record Seeing (P T : Type 0) : Type 0 where
  pub known : P → Known
  pub count : P → ℕ
  pub taker : P → T

abbrev pub beside : {P T K : Type 0} → Seeing P T → Moment P K → Moment T K
beside see at = moment (see.taker at.taker) at.outlet

-- behind facts, lines were taken one after another, and so many count then
pub record TookAll {F : Type 0} (rule : Rule F) (Holds : List Fact → Type 0) (known : Known)
    (facts : List Fact) (lines : List (List ℕ)) (after : Known) (count : ℕ) : Type 0 where
  pub told : List Fact
  pub taken : AreTaken rule known facts lines after told
  pub counted : count ≡ length told
  pub holds : Holds told

-- lines were taken up to one that was refused
pub record TookTo {F : Type 0} (rule : Rule F) (Holds : List Fact → Type 0) (known : Known)
    (facts : List Fact) (lines : List (List ℕ)) (count : ℕ) (why : F) : Type 0 where
  pub earlier : List (List ℕ)
  pub line : List ℕ
  pub later : List (List ℕ)
  pub parts : earlier ++ line ∷ later ≡ lines
  pub after : Known
  pub took : TookAll rule Holds known facts earlier after count
  pub denied : rule.Denies after took.told line why

-- a front of lines was taken
pub record TookPart {F : Type 0} (rule : Rule F) (Holds : List Fact → Type 0) (known : Known)
    (facts : List Fact) (lines : List (List ℕ)) : Type 0 where
  pub front : List (List ℕ)
  pub later : List (List ℕ)
  pub parts : front ++ later ≡ lines
  pub after : Known
  pub told : List Fact
  pub taken : AreTaken rule known facts front after told
  pub holds : Holds told

-- By the answer: all of the lines were taken; those up to one that was refused; or a front.
abbrev pub TookBy : {F T K : Type 0} → Rule F → Courses T K → Moment T K → Known → List Fact → List (List ℕ)
    → Known → ℕ → Moment T K → Result (Unit {0}) (TakeError F) → Type 0
TookBy rule courses first known facts lines after count now (Ok done) =
    TookAll rule (λ told. courses.Took first told now) known facts lines after count
TookBy rule courses first known facts lines after count now (Err (Refused why)) =
    TookTo rule (λ told. courses.Took first told now) known facts lines count why
TookBy rule courses first known facts lines after count now (Err Failed) =
    TookPart rule (λ told. courses.Cut first told now) known facts lines
TookBy rule courses first known facts lines after count now (Err Memory) =
    TookPart rule (λ told. courses.Broke first told now) known facts lines

-- what a call did with lines, whatever was taken before
pub record DidLines {F P T K : Type 0} (rule : Rule F) (courses : Courses T K) (Grew Fails : K → K → Type 0)
    (see : Seeing P T) (lines : List (List ℕ)) (old new : Moment P K) (result : Result (Unit {0}) (TakeError F))
    : Type 0 where
  pub takes : (first : Moment T K) (facts : List Fact) → see.count old.taker ≡ length facts
      → courses.Took first facts (beside see old)
      → TookBy rule courses first (see.known old.taker) facts lines (see.known new.taker) (see.count new.taker)
      (beside see new) result
  pub grew : Grew old.outlet new.outlet
  pub failed : result ≡ Err Failed → Fails old.outlet new.outlet

-- ---- errors

-- why a line is not taken that is not read
abbrev pub not_read : {F : Type 0} → FactError → F → TakeError F
not_read readings.Unread unread = Refused unread
not_read readings.Memory unread = Memory

-- what the end of reading lines is to the transcript, of which so many lines were taken
abbrev pub why_unfinished : {F : Type 0} → End (TakeError F) → ℕ → Unfinished F
why_unfinished (lines.Refused (Refused why)) count = ends.Refused (number_after count) why
why_unfinished (lines.Refused Failed) count = ends.WriteFault
why_unfinished (lines.Refused Memory) count = ends.Memory
why_unfinished lines.Memory count = ends.Memory
why_unfinished lines.ReadFault count = ends.ReadFault
why_unfinished lines.Limit count = ends.Limit
