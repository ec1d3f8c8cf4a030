-- `capture`: the file of a transcript's frames is written.
use Rattle.std.specs.Prelude.{◌≡◌, ℕ, List, Result, Ok, Err}
use Rattle.text_lines.specs.Reading.{Sourced}
use Rattle.replay.specs.Sinks.{Sunk}
use Rattle.text_lines.specs.declared.unfinished.Unfinished.{Unfinished}
use Rattle.text_lines.specs.declared.unfinished.Unfinished.TheVariants as ends
use Rattle.transcript_capture.specs.declared.fault.LineFault.{LineFault}
use Rattle.transcript_capture.specs.Captures.{IsCaptured}
use Rattle.rollover_program.specs.declared.status.Status.{Status}
use Rattle.rollover_program.specs.declared.status.Status.TheVariants.{Done, CaptureInput, Unrecorded, ReadFault, WriteFault, Memory}

-- the status of how capturing ended
abbrev pub status_of_capture : Result (Unit {0}) (Unfinished LineFault) → Status
status_of_capture (Ok done) = Done
status_of_capture (Err (ends.Refused line why)) = Unrecorded line why
status_of_capture (Err ends.Limit) = CaptureInput
status_of_capture (Err ends.ReadFault) = ReadFault
status_of_capture (Err ends.WriteFault) = WriteFault
status_of_capture (Err ends.Memory) = Memory

-- the transcript was captured, and the status is that of how it ended
abbrev pub EndsAsCapture : List ℕ → Sourced → Sourced → Sunk → Sunk → Status → Type 0
EndsAsCapture text left now old new status = (answer : Result (Unit {0}) (Unfinished LineFault))
    × IsCaptured text left now old.held new.held answer × (status ≡ status_of_capture answer)
