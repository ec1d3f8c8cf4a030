-- How capturing a transcript ends (this profile's own rule).
use Rattle.std.specs.Prelude.{◌≡◌, ◌⊎◌, ℕ, ◌<◌, List, [], ◌++◌, length, take, Option, Result, Ok, Err}
use Rattle.lan_base.specs.Told.{after}
use Rattle.text_lines.specs.Reading.{Sourced}
use Rattle.lan_core.specs.declared.fact.Fact.{Fact}
use Rattle.capture_file.specs.Records.{file_of}
use Rattle.transcript_reader.specs.Transcripts.{EndsBy, IsTakenFrom}
use Rattle.transcript_reader.specs.Turns.{ReadsInTurn}
use Rattle.text_lines.specs.declared.unfinished.Unfinished.{Unfinished}
use Rattle.text_lines.specs.declared.unfinished.Unfinished.TheVariants as ends
use Rattle.transcript_capture.specs.declared.fault.LineFault.{LineFault}
use Rattle.transcript_capture.specs.Lines.{by_length}
use Rattle.transcript_capture.specs.Packets.{packets}

-- the file of the packets of facts was written
abbrev pub Wrote : Option (List ℕ) → Option (List ℕ) → List Fact → Type 0
Wrote held then facts = then ≡ after held (file_of (packets facts))

-- of that file so many octets were written
abbrev pub WroteFront : Option (List ℕ) → Option (List ℕ) → ℕ → List Fact → Type 0
WroteFront held then count facts = then ≡ after held (take count (file_of (packets facts)))

-- By how capturing ended, what was written of the facts of the lines that were taken: the file of their
-- packets. A fault of the sink and want of memory break it off; where the sink failed, it is not written
-- whole.
abbrev pub IsWritten : Option (List ℕ) → Option (List ℕ) → Result (Unit {0}) (Unfinished LineFault)
    → List Fact → Type 0
IsWritten held then (Ok done) facts = Wrote held then facts
IsWritten held then (Err (ends.Refused line why)) facts = Wrote held then facts
IsWritten held then (Err ends.Limit) facts = Wrote held then facts
IsWritten held then (Err ends.ReadFault) facts = Wrote held then facts
IsWritten held then (Err ends.WriteFault) facts =
    (count : ℕ) × (count < length (file_of (packets facts))) × WroteFront held then count facts
IsWritten held then (Err ends.Memory) facts = (count : ℕ) × WroteFront held then count facts

-- the file of their packets was written, and more behind it
abbrev pub WasWritten : Option (List ℕ) → Option (List ℕ) → List Fact → Type 0
WasWritten held then facts = (more : List ℕ) × (then ≡ after held (file_of (packets facts) ++ more))

-- A transcript of this text was captured, as far as anything of it was read, and it ended so. Of the lines
-- that end before the last octets that were taken the file was written before that.
pub record IsCaptured (text : List ℕ) (left now : Sourced) (held then : Option (List ℕ))
    (result : Result (Unit {0}) (Unfinished LineFault)) : Type 0 where
  pub taken : (now ≡ left) ⊎ IsTakenFrom by_length (WasWritten held then) left now
  pub ends : EndsBy by_length (IsWritten held then result) text left now result

-- nothing was read, since no more than a front of the file's head was written
abbrev pub IsUnbegun : {S : Type 0} → S → S → Option (List ℕ) → Option (List ℕ)
    → Result (Unit {0}) (Unfinished LineFault) → Type 0
IsUnbegun s s_then held then (Err ends.WriteFault) =
    (s_then ≡ s) × IsWritten held then (Err ends.WriteFault) []
IsUnbegun s s_then held then (Err ends.Memory) = (s_then ≡ s) × IsWritten held then (Err ends.Memory) []
IsUnbegun s s_then held then answer = ⊥

-- A transcript was captured in turns, as far as anything of it was read, whatever the source tells: of the
-- lines that end in what one read gives the file is written before the next one.
abbrev pub CapturesInTurn : {S : Type 0} → (S → Option (List ℕ) → S → Type 0) → S → S → Option (List ℕ)
    → Option (List ℕ) → Result (Unit {0}) (Unfinished LineFault) → Type 0
CapturesInTurn Gave s s_then held then result = IsUnbegun s s_then held then result
    ⊎ ReadsInTurn Gave by_length (WasWritten held then) (IsWritten held then result) s s_then result
