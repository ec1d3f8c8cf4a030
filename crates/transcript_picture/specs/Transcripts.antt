-- How a transcript is read from a source and drawn (this profile's own rule). A line is refused as where
-- a transcript is judged.
use Rattle.std.specs.Prelude.{ℕ, List, Result, Ok, Err}
use Rattle.lan_core.specs.declared.fact.Fact.{Fact}
use Rattle.text_lines.specs.Reading.{Sourced}
use Rattle.transcript_reader.specs.Reached.{HasNoOutlet}
use Rattle.transcript_reader.specs.Transcripts.{EndsReading}
use Rattle.text_lines.specs.declared.unfinished.Unfinished.{Unfinished}
use Rattle.transcript_check.specs.declared.fault.CheckFault.{CheckFault}
use Rattle.transcript_check.specs.Standing.{by_epochs}

-- of these facts there is a picture, or not
abbrev pub AreDrawn : {X : Type 0} → Result X (Unfinished CheckFault) → List Fact → Type 0
AreDrawn (Ok picture) = λ facts. Unit {0}
AreDrawn (Err why) = λ facts. HasNoOutlet why

-- a transcript of this text was read and drawn, and it ended so
abbrev pub EndsDrawing : {X : Type 0} → List ℕ → Sourced → Sourced → Result X (Unfinished CheckFault) → Type 0
EndsDrawing text left now result =
    EndsReading by_epochs (λ facts. Unit {0}) (AreDrawn result) text left now result
