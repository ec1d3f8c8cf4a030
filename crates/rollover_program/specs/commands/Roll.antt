-- `roll`: a trace of two groups is performed, for its transcript.
use Rattle.std.specs.Prelude.{◌≡◌, ℕ, nat_le, List, length, Option, Some, None}
use Rattle.text_lines.specs.Reading.{Sourced}
use Rattle.trace_acts.specs.declared.halt.Halt.{Halt}
use Rattle.twin_schedule.specs.World.{beginning}
use Rattle.twin_schedule.specs.Acts.{Course, Goes, Stops, perform}
use Rattle.replay.specs.Sinks.{Sunk}
use Rattle.replay.specs.Runs.{EndsRun, within, most_input}
use Rattle.replay.specs.twin.TwoGroups.{transcript, two_groups}
use Rattle.rollover_program.specs.declared.status.Status.{Status}
use Rattle.rollover_program.specs.TwoGroups.{ArePromised}
use Rattle.rollover_program.specs.commands.Run.{Answers, status_after}

-- a run of this text was shown, both groups are promised, and it ended so
abbrev pub EndsAsRoll : List ℕ → Sourced → Sourced → Sunk → Sunk → Status → Type 0
EndsAsRoll text left now old new status =
    Answers (λ result. EndsRun two_groups ArePromised transcript text left now old new result)
    status

-- why performing lines stopped, if it did
abbrev pub halt_in : Course → Option Halt
halt_in (Goes w) = None
halt_in (Stops w halt) = Some halt

-- the call ended with the status of a text that is performed without a fault from outside
abbrev pub EndsRollWithin : List ℕ → Status → Type 0
EndsRollWithin text status =
    status ≡ status_after (nat_le (length text) most_input)
    (halt_in (perform (within two_groups text) beginning))
