-- How the key text is read, line by line.
use Rattle.std.specs.Prelude.{◌≡◌, ℕ, Bool, true, false, List, Option, Some, None, Result, Ok, Err}
use Rattle.octet_supply.specs.Supplying.{Held}
use Rattle.trace_text.specs.declared.fault.TextFault.{TextFault}
use Rattle.audit_text.specs.declared.line.KeyLine.{KeyLine}
use Rattle.audit_text.specs.Parting.{says_capture}
use Rattle.audit_text.specs.Reading.{key_line_in}
use Rattle.key_ring.specs.Reading.{RingEnd}
use Rattle.text_lines.specs.declared.reading.End.TheVariants.{Limit, Memory, ReadFault, Refused}
use Rattle.key_ring.specs.Rings.{Ring, with_line}

-- what is answered where reading the lines told whether a capture stands behind them
abbrev pub answered : Ring → Held → Result Bool RingEnd → Result (Ring × Option Held) RingEnd
answered ring supply (Ok true) = Ok (ring, Some supply)
answered ring supply (Ok false) = Ok (ring, None)
answered ring supply (Err end) = Err end

-- what a line that was read adds
abbrev pub Adds : ℕ → Result (Option KeyLine) TextFault → Ring → Ring → Type 0
Adds n (Ok None) old new = new ≡ old
Adds n (Ok (Some line)) old new = new ≡ with_line n line old
Adds n (Err why) old new = ⊥

-- what adding a line did, and whether it says `capture`
abbrev pub AddsLine : ℕ → List ℕ → Ring → Ring → Result Bool RingEnd → Type 0
AddsLine n text old new (Ok ends) = Adds n (key_line_in text) old new × (ends ≡ says_capture text)
AddsLine n text old new (Err (Refused (line, why))) =
    (line ≡ n) × (key_line_in text ≡ Err why) × (new ≡ old)
AddsLine n text old new (Err Memory) = new ≡ old
AddsLine n text old new (Err _) = ⊥
