-- `dissect`: each packet of a file of captured packets is told in one line.
use Rattle.std.specs.Prelude.{◌≡◌, ℕ, List, Option, Result, Ok, Err}
use Rattle.capture_file.specs.declared.fault.CaptureFault.{CaptureFault}
use Rattle.text_lines.specs.declared.unfinished.Unfinished.{Unfinished}
use Rattle.text_lines.specs.declared.unfinished.Unfinished.TheVariants as ends
use Rattle.packet_lines.specs.Telling.{EndsTold}
use Rattle.rollover_program.specs.declared.status.Status.{Status}
use Rattle.rollover_program.specs.declared.status.Status.TheVariants.{Done, Capture, CaptureInput, ReadFault, WriteFault, Memory}

-- the status of how telling a file ended
abbrev pub status_of_telling : Result (Unit {0}) (Unfinished CaptureFault) → Status
status_of_telling (Ok done) = Done
status_of_telling (Err (ends.Refused at why)) = Capture at why
status_of_telling (Err ends.Limit) = CaptureInput
status_of_telling (Err ends.ReadFault) = ReadFault
status_of_telling (Err ends.WriteFault) = WriteFault
status_of_telling (Err ends.Memory) = Memory

-- the file was told, and the status is that of how it ended
abbrev pub EndsAsDissect : List ℕ → Option (List ℕ) → Option (List ℕ) → Option (List ℕ) → Status
    → Type 0
EndsAsDissect file left held then status = (answer : Result (Unit {0}) (Unfinished CaptureFault))
    × EndsTold file left held then answer × (status ≡ status_of_telling answer)
