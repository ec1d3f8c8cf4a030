-- How a file is told: the line of each packet, with numbers from 1 (this profile's own rule).
use Rattle.std.specs.Prelude.{◌≡◌, ◌⊎◌, ℕ, ◌+◌, ◌<◌, ◌≤◌, List, [], ◌∷◌, ◌++◌, length, take, Option, Some, Result, Ok, Err}
use Rattle.lan_base.specs.Told.{after}
use Rattle.capture_file.specs.declared.fault.CaptureFault.{CaptureFault}
use Rattle.capture_file.specs.declared.fault.CaptureFault.TheVariants.{Magic, LinkType, Cut, Length}
use Rattle.capture_file.specs.Describing.{described}
use Rattle.lan_base.specs.Ranges.{most_input}
use Rattle.capture_file.specs.Records.{IsFileOf}
use Rattle.text_lines.specs.Reading.{most_at_once}
use Rattle.text_lines.specs.declared.unfinished.Unfinished.{Unfinished}
use Rattle.text_lines.specs.declared.unfinished.Unfinished.TheVariants as ends
use Rattle.packet_lines.specs.Files.{IsBrokenOff, IsCutAt, IsFileBefore, IsRefusedAt}

-- ---- what is written

-- the lines of packets that come after so many others
abbrev pub lines_after : ℕ → List (List ℕ) → List ℕ
lines_after n [] = []
lines_after n (packet ∷ later) = described (n + 1) packet ++ lines_after (n + 1) later

-- the lines of all packets
abbrev pub lines : List (List ℕ) → List ℕ
lines packets = lines_after 0 packets

-- the lines of these packets were written
abbrev pub Told : List (List ℕ) → Option (List ℕ) → Option (List ℕ) → Type 0
Told packets held then = then ≡ after held (lines packets)

-- so many octets of the lines were written
abbrev pub ToldPart : ℕ → List (List ℕ) → Option (List ℕ) → Option (List ℕ) → Type 0
ToldPart n packets held then = then ≡ after held (take n (lines packets))

-- so many octets of the lines end within that of the last packet
pub record IsWithinLast (n : ℕ) (packets : List (List ℕ)) : Type 0 where
  pub before : List (List ℕ)
  pub last : List ℕ
  pub all : packets ≡ before ++ last ∷ []
  pub from : length (lines before) ≤ n
  pub to : n < length (lines packets)

-- ---- what is taken

-- a source told no more of a text than this front of it, and what is asked for at once
abbrev pub IsTakenNear : List ℕ → List ℕ → Option (List ℕ) → Type 0
IsTakenNear text front left = (ahead rest : List ℕ) × (text ≡ front ++ (ahead ++ rest))
    × (left ≡ Some rest) × (length ahead ≤ most_at_once)

-- ---- why reading ends

-- why a file is refused that is read within the limit: it is cut where it ends within it
abbrev pub RefusedBy : CaptureFault → List ℕ → List (List ℕ) → ℕ → Type 0
RefusedBy Magic file packets at = IsRefusedAt packets at Magic (take most_input file)
RefusedBy LinkType file packets at = IsRefusedAt packets at LinkType (take most_input file)
RefusedBy Length file packets at = IsRefusedAt packets at Length (take most_input file)
RefusedBy Cut file packets at = (length file ≤ most_input) × IsCutAt packets at file

-- How telling a file ends. At the end it was read, and all packets were told. Where it is refused,
-- those before were; at a fault of the source, and where an octet past the limit was taken, those that
-- end in what was taken, or within the limit. A fault of the sink and want of memory break off what is
-- written; where the sink failed at the line of a packet, nothing was asked for behind that packet.
abbrev pub EndsTold : List ℕ → Option (List ℕ) → Option (List ℕ) → Option (List ℕ)
    → Result (Unit {0}) (Unfinished CaptureFault) → Type 0
EndsTold file left held then (Ok done) =
    (length file ≤ most_input) × (left ≡ Some [])
    × ((packets : List (List ℕ)) × IsFileOf packets file × Told packets held then)
EndsTold file left held then (Err (ends.Refused at why)) =
    (packets : List (List ℕ)) × RefusedBy why file packets at × Told packets held then
EndsTold file left held then (Err ends.Limit) =
    (most_input < length file) × ((packets : List (List ℕ))
    × IsBrokenOff packets (take most_input file) × Told packets held then)
EndsTold file left held then (Err ends.ReadFault) =
    (taken rest : List ℕ) × (file ≡ taken ++ rest) × (left ≡ Some rest)
    × (length taken ≤ most_input)
    × ((packets : List (List ℕ)) × IsBrokenOff packets taken × Told packets held then)
EndsTold file left held then (Err ends.WriteFault) =
    (packets : List (List ℕ)) × (behind : List ℕ)
    × (f : IsFileBefore packets behind (take most_input file)) × IsTakenNear file f.file left
    × ((n : ℕ) × IsWithinLast n packets × ToldPart n packets held then)
EndsTold file left held then (Err ends.Memory) =
    (then ≡ held) ⊎ ((packets : List (List ℕ)) × (behind : List ℕ)
    × IsFileBefore packets behind (take most_input file)
    × ((n : ℕ) × ToldPart n packets held then))
