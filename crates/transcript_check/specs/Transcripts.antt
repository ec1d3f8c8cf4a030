-- How a transcript is read from a source and judged (this profile's own rule).
use Rattle.std.specs.Prelude.{◌≡◌, ◌≢◌, ℕ, ◌≤◌, List, Result, Ok, Err}
use Rattle.lan_base.specs.Faults.{Rose}
use Rattle.lan_core.specs.declared.fact.Fact.{Fact}
use Rattle.text_lines.specs.Reading.{Sourced}
use Rattle.transcript_reader.specs.Reached.{HasNoOutlet}
use Rattle.transcript_reader.specs.Transcripts.{EndsReading, AreRead as AreReadBy, IsRefused as IsRefusedBy}
use Rattle.text_lines.specs.declared.unfinished.Unfinished.{Unfinished}
use Rattle.text_lines.specs.declared.unfinished.Unfinished.TheVariants as ends
use Rattle.transcript_check.specs.declared.fault.CheckFault.{CheckFault}
use Rattle.transcript_check.specs.declared.verdict.Verdict.{Verdict}
use Rattle.transcript_check.specs.Standing.{IsVerdict, by_epochs}

-- these lines are taken, from the first one on
abbrev pub AreRead : List (List ℕ) → Type 0
AreRead lines = AreReadBy by_epochs (λ facts. Unit {0}) lines

-- the lines before this number are taken, and the line of this number is to be refused
abbrev pub IsRefused : List (List ℕ) → ℕ → CheckFault → Type 0
IsRefused lines number why = IsRefusedBy by_epochs (λ facts. Unit {0}) lines number why

-- where there is a verdict, it is that on these facts
abbrev pub AreJudged : Result Verdict (Unfinished CheckFault) → List Fact → Type 0
AreJudged (Ok verdict) facts = IsVerdict facts verdict
AreJudged (Err why) facts = HasNoOutlet why

-- a transcript of this text was read and judged, and it ended so
abbrev pub EndsJudging : List ℕ → Sourced → Sourced → Result Verdict (Unfinished CheckFault) → Type 0
EndsJudging text left now result =
    EndsReading by_epochs (λ facts. Unit {0}) (AreJudged result) text left now result

-- A transcript is read for an answer alone, from a source with this count of faults, before and now: where the
-- source failed, the count rose, and it never falls; and nothing was written that could fail.
pub record IsReadAlone {X : Type 0} (before now : ℕ) (result : Result X (Unfinished CheckFault)) : Type 0
  where
    pub rose : result ≡ Err ends.ReadFault → Rose before now
    pub unwritten : result ≢ Err ends.WriteFault
    pub counts : before ≤ now
