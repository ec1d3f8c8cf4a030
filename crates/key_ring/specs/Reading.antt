-- How the key text before a capture is read from a source, within a limit.
use Rattle.std.specs.Prelude.{⊤, ◌≡◌, ℕ, ◌<◌, ◌≤◌, List, [], ◌++◌, length, take, Option, Some, None, Result, Ok, Err}
use Rattle.lan_base.specs.Ranges.{most_input}
use Rattle.octet_supply.specs.Supplying.{Held, IsTaken, Stands}
use Rattle.text_lines.specs.Texts.{lines_of}
use Rattle.audit_text.specs.Parting.{AreLines, IsUnparted, capture_behind}
use Rattle.trace_text.specs.declared.fault.TextFault.{TextFault}
use Rattle.text_lines.specs.declared.reading.End.{End}
use Rattle.text_lines.specs.declared.reading.End.TheVariants.{Limit, Memory, ReadFault, Refused}
use Rattle.key_ring.specs.Rings.{Ring, no_ring, ring_from, ring_in}

-- the capture in what is within the limit
abbrev pub file_in : List ℕ → List ℕ
file_in text = capture_behind (take most_input text)

-- the capture stands behind what was given out
abbrev pub IsBeforeCapture : List ℕ → Held → Option (List ℕ) → Type 0
IsBeforeCapture text supply left = (given : List ℕ) × Stands most_input text given supply left
    × (take most_input text ≡ given ++ file_in text)

-- Octets that begin with a key text do not end it: the lines of a front of them are read, and what is
-- behind these tells neither that a capture begins there nor where the next line ends.
pub record IsUnfinished (octets : List ℕ) : Type 0 where
  pub front : List ℕ
  pub more : List ℕ
  pub parts : octets ≡ front ++ more
  pub none : capture_behind octets ≡ []
  pub starts : AreLines front
  pub ring : Ring
  pub read : ring_from 1 (lines_of front) no_ring ≡ Ok ring
  pub unparted : IsUnparted more

-- why a key text is not read to its end
abbrev pub RingEnd : Type 0
RingEnd = End (ℕ × TextFault)

-- What reading a key text did. It is read whole, with a capture behind it or without one; or its first
-- line that is refused is told; or it did not end before an octet past the limit was taken, or the source
-- failed.
abbrev pub ReadsRing : List ℕ → Option (List ℕ) → Result (Ring × Option Held) RingEnd → Type 0
ReadsRing text left (Ok (ring, Some supply)) =
    (ring_in text ≡ Ok ring) × IsBeforeCapture text supply left
ReadsRing text left (Ok (ring, None)) =
    (ring_in text ≡ Ok ring) × (file_in text ≡ []) × (length text ≤ most_input) × (left ≡ Some [])
ReadsRing text left (Err (Refused (line, why))) = ring_in text ≡ Err (record { line = line; why = why })
ReadsRing text left (Err Limit) = (most_input < length text) × IsUnfinished (take most_input text)
ReadsRing text left (Err ReadFault) =
    (taken : List ℕ) × IsTaken most_input text taken left × IsUnfinished taken
ReadsRing text left (Err Memory) = ⊤
