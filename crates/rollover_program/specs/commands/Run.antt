-- `run [--summary]`: a trace is performed, for its transcript or for its summary.
use Rattle.std.specs.Prelude.{◌≡◌, ℕ, nat_le, Bool, true, false, List, length, Option, Some, None}
use Rattle.std.specs.Prelude.{Result, Ok, Err}
use Rattle.text_lines.specs.Reading.{Sourced}
use Rattle.text_lines.specs.declared.reading.End.{End}
use Rattle.text_lines.specs.declared.reading.End.TheVariants as ends
use Rattle.trace_acts.specs.declared.halt.Halt.{Halt}
use Rattle.trace_acts.specs.declared.halt.Halt.TheVariants as halts
use Rattle.lan_schedule.specs.Races.{Chance}
use Rattle.lan_schedule.specs.Acts.{Course, Goes, Stops, course}
use Rattle.replay.specs.Sinks.{Sunk}
use Rattle.replay.specs.Runs.{EndsRun, within, most_input}
use Rattle.replay.specs.OneGroup.{one_group, shown_by}
use Rattle.rollover_program.specs.declared.status.Status.{Status}
use Rattle.rollover_program.specs.declared.status.Status.TheVariants.{Done, Trace, ReadFault, WriteFault, Memory, Input, Limit, RepeatedDraw, Forged}
use Rattle.rollover_program.specs.Headline.{IsPromised}

-- the status of why performing a trace halted
abbrev pub status_of_halt : Halt → Status
status_of_halt (halts.Trace line kind) = Trace line kind
status_of_halt halts.Memory = Memory
status_of_halt halts.WriteFault = WriteFault
status_of_halt (halts.Limit which) = Limit which
status_of_halt (halts.RepeatedDraw first second) = RepeatedDraw first second
status_of_halt (halts.Forged line) = Forged line

-- the status of a replay's answer
abbrev pub status_of_replay : Result (Unit {0}) (End Halt) → Status
status_of_replay (Ok done) = Done
status_of_replay (Err (ends.Refused halt)) = status_of_halt halt
status_of_replay (Err ends.Memory) = Memory
status_of_replay (Err ends.ReadFault) = ReadFault
status_of_replay (Err ends.Limit) = Input

-- a replay ended with an answer, and the status is that of the answer
abbrev pub Answers : (Result (Unit {0}) (End Halt) → Type 0) → Status → Type 0
Answers Ends status = (answer : Result (Unit {0}) (End Halt)) × Ends answer × (status ≡ status_of_replay answer)

-- a run of this text was shown, it is promised, and it ended so
abbrev pub EndsAsRun : Bool → List ℕ → Sourced → Sourced → Sunk → Sunk → Status → Type 0
EndsAsRun summary text left now old new status =
    Answers (λ result. EndsRun one_group IsPromised (shown_by summary) text left now old new result)
    status

-- the status, by whether the text is within the limit, and why performing it stopped, if it did
abbrev pub status_after : Bool → Option Halt → Status
status_after fits (Some halt) = status_of_halt halt
status_after true None = Done
status_after false None = Input

-- why performing lines stopped, if it did
abbrev pub halt_in : Course → Option Halt
halt_in (Goes w) = None
halt_in (Stops w halt) = Some halt

-- the status of a text that is performed without a fault from outside, if chance decides so
abbrev pub status_within : List ℕ → List Chance → Status
status_within text chances =
    status_after (nat_le (length text) most_input)
    (halt_in (course (within one_group text) chances))

-- the call ended with such a status
abbrev pub EndsWithin : List ℕ → Status → Type 0
EndsWithin text status = (chances : List Chance) × (status ≡ status_within text chances)
