-- In which turns a transcript is read (this profile's own rule): the facts of the lines that end in what one
-- read gives are taken before the next one.
use Rattle.std.specs.Prelude.{ℕ, ◌≡◌, ◌<◌, List, [], ◌++◌, length, take, Option, Some, None, Result, Ok, Err}
use Rattle.lan_base.specs.Ranges.{most_input}
use Rattle.lan_core.specs.declared.fact.Fact.{Fact}
use Rattle.text_lines.specs.Texts.{whole_lines, lines_of}
use Rattle.text_lines.specs.Turns.{TakesTurns, lines_due}
use Rattle.text_lines.specs.declared.unfinished.Unfinished.{Unfinished}
use Rattle.text_lines.specs.declared.unfinished.Unfinished.TheVariants as ends
use Rattle.transcript_reader.specs.Taking.{Rule}
use Rattle.transcript_reader.specs.Transcripts.{AreRead, IsFrontRead, IsRefused}

-- By the answer, which lines were taken of octets, and of what the last read gave behind them, or that it
-- failed; of their facts this holds.
abbrev pub EndsTurn : {F X : Type 0} → Rule F → (List Fact → Type 0) → Result X (Unfinished F) → List ℕ
    → Option (List ℕ) → Type 0
EndsTurn rule Holds (Ok answer) octets last = (last ≡ Some []) × AreRead rule Holds (lines_of octets)
EndsTurn rule Holds (Err (ends.Refused number why)) octets last = (piece : List ℕ) × (last ≡ Some piece)
    × IsRefused rule Holds (lines_due most_input octets piece) number why
EndsTurn rule Holds (Err ends.Memory) octets last = (piece : List ℕ) × (last ≡ Some piece)
    × IsFrontRead rule Holds (lines_due most_input octets piece)
EndsTurn rule Holds (Err ends.WriteFault) octets last = (piece : List ℕ) × (last ≡ Some piece)
    × IsFrontRead rule Holds (lines_due most_input octets piece)
EndsTurn rule Holds (Err ends.ReadFault) octets last = (last ≡ None) × AreRead rule Holds (whole_lines octets)
EndsTurn rule Holds (Err ends.Limit) octets last = (piece : List ℕ) × (last ≡ Some piece)
    × (most_input < length (octets ++ piece))
    × AreRead rule Holds (whole_lines (take most_input (octets ++ piece)))

-- Pieces were given, one a read, and all lines that end in them were taken before one more read, at which it
-- ended so: of the facts of those lines the one holds, and of those of all that were taken the other.
abbrev pub ReadsInTurn : {F X S : Type 0} → (S → Option (List ℕ) → S → Type 0) → Rule F
    → (List Fact → Type 0) → (List Fact → Type 0) → S → S → Result X (Unfinished F) → Type 0
ReadsInTurn Gave rule Held Holds s s_then result =
    TakesTurns Gave (λ octets. AreRead rule Held (whole_lines octets)) (EndsTurn rule Holds result) s s_then
