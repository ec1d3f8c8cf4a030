-- `draw`: the picture of a transcript's keys is written.
use Rattle.std.specs.Prelude.{◌≡◌, ◌⊎◌, ℕ, List, [], ◌∷◌, Ok, Err}
use Rattle.lan_base.specs.Faults.{Rose}
use Rattle.text_lines.specs.Reading.{Sourced}
use Rattle.transcript_check.specs.declared.fault.CheckFault.{CheckFault}
use Rattle.text_lines.specs.declared.unfinished.Unfinished.{Unfinished}
use Rattle.transcript_picture.specs.Transcripts.{EndsDrawing}
use Rattle.replay.specs.Sinks.{Sunk, Wrote, BrokeOff}
use Rattle.rollover_program.specs.declared.status.Status.{Status}
use Rattle.rollover_program.specs.declared.status.Status.TheVariants.{Done, WriteFault, Memory}
use Rattle.rollover_program.specs.commands.Check.{status_of}

-- a picture was written; a fault of the sink, and want of memory, leave a part of it
abbrev pub Shows : List ℕ → Sunk → Sunk → Status → Type 0
Shows picture old new WriteFault =
    Rose old.faults new.faults × BrokeOff (picture ∷ []) old new
Shows picture old new Memory = BrokeOff (picture ∷ []) old new
Shows picture old new status = (status ≡ Done) × Wrote (picture ∷ []) old new

-- the transcript was read to its end, and then a picture written; or it was not drawn, as where a line
-- is refused, and nothing was written
abbrev pub EndsAsDraw : List ℕ → Sourced → Sourced → Sunk → Sunk → Status → Type 0
EndsAsDraw text left now old new status =
    ((picture : List ℕ) × EndsDrawing text left now (Ok picture) × Shows picture old new status)
    ⊎ ((why : Unfinished CheckFault) × EndsDrawing {X = List ℕ} text left now (Err why)
    × (status ≡ status_of why) × (new ≡ old))
