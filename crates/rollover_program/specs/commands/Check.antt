-- `check`: a transcript is judged.
use Rattle.std.specs.Prelude.{◌≡◌, ◌⊎◌, ℕ, if◌then◌else◌, List, [], ◌∷◌, Ok, Err}
use Rattle.lan_base.specs.Faults.{Rose}
use Rattle.text_lines.specs.Reading.{Sourced}
use Rattle.transcript_check.specs.declared.verdict.Verdict.{Verdict}
use Rattle.transcript_check.specs.declared.fault.CheckFault.{CheckFault}
use Rattle.text_lines.specs.declared.unfinished.Unfinished.{Unfinished}
use Rattle.text_lines.specs.declared.unfinished.Unfinished.TheVariants as ends
use Rattle.transcript_check.specs.Verdicts.{is_clean, text_of}
use Rattle.transcript_check.specs.Transcripts.{EndsJudging}
use Rattle.replay.specs.Sinks.{Sunk, Wrote, BrokeOff}
use Rattle.rollover_program.specs.declared.status.Status.{Status}
use Rattle.rollover_program.specs.declared.status.Status.TheVariants.{Done, CheckInput, Refuted, Transcript, ReadFault, WriteFault, Memory}

-- the status of a verdict that was told: a transcript is refuted where a pair is there
abbrev pub told : Verdict → Status
told verdict = if is_clean verdict then Done else Refuted

-- the text of a verdict was written; a fault of the sink, and want of memory, leave a part of it
abbrev pub Tells : Verdict → Sunk → Sunk → Status → Type 0
Tells verdict old new WriteFault =
    Rose old.faults new.faults × BrokeOff (text_of verdict ∷ []) old new
Tells verdict old new Memory = BrokeOff (text_of verdict ∷ []) old new
Tells verdict old new status = (status ≡ told verdict) × Wrote (text_of verdict ∷ []) old new

-- the status where a transcript was not judged, or not drawn
abbrev pub status_of : Unfinished CheckFault → Status
status_of (ends.Refused line why) = Transcript line why
status_of ends.Memory = Memory
status_of ends.ReadFault = ReadFault
status_of ends.WriteFault = WriteFault
status_of ends.Limit = CheckInput

-- the transcript was judged, and then its verdict told; or it was not judged, and nothing was written
abbrev pub EndsAsCheck : List ℕ → Sourced → Sourced → Sunk → Sunk → Status → Type 0
EndsAsCheck text left now old new status =
    ((verdict : Verdict) × EndsJudging text left now (Ok verdict) × Tells verdict old new status)
    ⊎ ((why : Unfinished CheckFault) × EndsJudging text left now (Err why) × (status ≡ status_of why)
    × (new ≡ old))
