-- How reading the packets of a capture ends, which stands behind the key text.
use Rattle.std.specs.Prelude.{◌≡◌, ◌⊎◌, ℕ, ◌<◌, ◌≤◌, List, [], ◌∷◌, ◌++◌, length, map, reverse, All, Option, Some, None, Ok, Err}
use Rattle.lan_base.specs.Ranges.{most_input}
use Rattle.capture_packets.specs.declared.fault.CaptureFault.{CaptureFault}
use Rattle.capture_packets.specs.declared.fault.CaptureFault.TheVariants.{Cut}
use Rattle.capture_packets.specs.Packets.{Seen}
use Rattle.capture_packets.specs.Captures.{Step, capture, opened}
use Rattle.audit_text.specs.Parting.{capture_behind}
use Rattle.known_keys.specs.History.{keys}
use Rattle.known_keys.specs.Numbered.{most_keys}
use Rattle.audit_report.specs.declared.ending.Ending.{Ending}
use Rattle.audit_report.specs.declared.ending.Ending.TheVariants as endings
use Rattle.key_ring.specs.Reading.{file_in}
use Rattle.key_ring.specs.Rings.{Ring, ring_in}
use Rattle.capture_audit.specs.Before.{IsUnwrapped, Unwrapped, entries}

-- packets in the order in which they were captured
abbrev pub in_order : List Unwrapped → List Seen
in_order packets = reverse (map (λ u. u.packet) packets)

-- the capture in a text begins with these packets
abbrev pub AreFirst : List ℕ → List Unwrapped → Type 0
AreFirst text packets = (later : List Seen) × ((capture (file_in text)).packets ≡ in_order packets ++ later)

-- a file has these packets, and nothing is refused
abbrev pub HasAll : List ℕ → List Seen → Type 0
HasAll file packets = capture file ≡ record { packets = packets; refused = None }

-- a file has these packets, and then this is refused
abbrev pub IsRefusedBehind : List ℕ → List Seen → ℕ → CaptureFault → Type 0
IsRefusedBehind file packets at why =
    capture file ≡ record { packets = packets; refused = Some (record { at = at; why = why }) }

-- The source failed, and these packets were read before: all that end in what was taken of the file, but
-- such as end within its last 27 octets, which had been looked at alone.
pub record IsFailedBehind (text : List ℕ) (left : Option (List ℕ)) (packets : List Seen) : Type 0 where
  pub taken : List ℕ
  pub rest : List ℕ
  pub whole : text ≡ taken ++ rest
  pub told : left ≡ Some rest
  pub within : length taken ≤ most_input
  pub front : List ℕ
  pub more : List ℕ
  pub file : capture_behind taken ≡ front ++ more
  pub has : HasAll front packets
  pub none : (length more < 28) ⊎ ((capture (front ++ more)).packets ≡ packets)

-- the next packet would make one key too many
pub record IsOneTooMany (ring : Ring) (text : List ℕ) (packets : List Unwrapped) : Type 0 where
  pub next : Unwrapped
  pub later : List Seen
  pub all : (capture (file_in text)).packets ≡ in_order packets ++ next.packet ∷ later
  pub unwrapped : IsUnwrapped ring next
  pub many : most_keys < length (keys (entries ring (next ∷ packets)))

-- reading ended so behind these packets, the newest of which is the first
abbrev pub EndsBehind : Ending → List ℕ → Option (List ℕ) → Ring → List Unwrapped → Type 0
EndsBehind endings.Whole text left ring packets =
    (length text ≤ most_input) × (left ≡ Some []) × HasAll (file_in text) (in_order packets)
EndsBehind endings.Fault text left ring packets = IsFailedBehind text left (in_order packets)
EndsBehind endings.InputLimit text left ring packets =
    (most_input < length text) × (HasAll (file_in text) (in_order packets)
    ⊎ ((at : ℕ) × IsRefusedBehind (file_in text) (in_order packets) at Cut))
EndsBehind endings.KeyLimit text left ring packets = IsOneTooMany ring text packets
EndsBehind (endings.Octet at why) text left ring packets =
    IsRefusedBehind (file_in text) (in_order packets) at why × (why ≡ Cut → length text ≤ most_input)

-- Of a text the key text was read, the head of the capture, and then these first packets of it, and
-- reading ended so.
pub record IsRead (text : List ℕ) (left : Option (List ℕ)) (ring : Ring) (packets : List Unwrapped)
    (ending : Ending) : Type 0 where
  pub said : ring_in text ≡ Ok ring
  pub head : Step
  pub opens : opened (file_in text) ≡ Ok head
  pub unwrapped : All (IsUnwrapped ring) packets
  pub few : length (keys (entries ring packets)) ≤ most_keys
  pub first : AreFirst text packets
  pub ends : EndsBehind ending text left ring packets

-- ---- where the head was not read

-- the head of the capture is refused; there may be no octet of one
abbrev pub IsHeadRefused : List ℕ → ℕ → CaptureFault → Type 0
IsHeadRefused text at why =
    (at ≡ 0) × (opened (file_in text) ≡ Err why) × (why ≡ Cut → length text ≤ most_input)

-- an octet past the limit was taken in the key text or the head
abbrev pub IsHeadPast : List ℕ → Type 0
IsHeadPast text = (most_input < length text) × (opened (file_in text) ≡ Err Cut)

-- the source failed there
pub record IsHeadFailed (text : List ℕ) (left : Option (List ℕ)) : Type 0 where
  pub taken : List ℕ
  pub rest : List ℕ
  pub whole : text ≡ taken ++ rest
  pub told : left ≡ Some rest
  pub within : length taken ≤ most_input
  pub why : CaptureFault
  pub unread : opened (capture_behind taken) ≡ Err why
