-- What the laws speak of.
use Rattle.std.specs.Prelude.{◌≡◌, ◌⊎◌, ◌≤◌, ℕ, ◌+◌, nat_lt, Bool, if◌then◌else◌, true, false, List, [], ◌∷◌, ◌++◌, length, Ok}
use Rattle.std.specs.List.{AllByRecursion}
use Rattle.audit_text.specs.Parting.{IsParted}
use Rattle.lan_base.specs.Ranges.{most_input}
use Rattle.capture_file.specs.declared.order.Order.{Order}
use Rattle.capture_packets.specs.declared.state.Parts.{Parts}
use Rattle.capture_packets.specs.Packets.{Seen}
use Rattle.capture_packets.specs.Written.{IsWritable, blocks_file, classic_file}
use Rattle.mkpdu_codec.specs.declared.spelled.Spelled.{Spelled}
use Rattle.mkpdu_codec.specs.Reading.{reading}
use Rattle.packet_verdicts.specs.Frames.{frame_of}
use Rattle.packet_verdicts.specs.Groups.{GroupKeys, has_name}
use Rattle.key_ring.specs.Reading.{file_in}
use Rattle.key_ring.specs.Rings.{Ring}
use Rattle.capture_audit.specs.Before.{Unwrapped}
use Rattle.capture_audit.specs.Reading.{HasAll}

-- the file in a text, which is within the limit, has these packets, and nothing is refused
abbrev pub IsWhole : List ℕ → List Seen → Type 0
IsWhole text packets = (length text ≤ most_input) × HasAll (file_in text) packets

-- packets are written in a file: in the classic format with a kind of time, or in pcapng, in an order of
-- octets
abbrev pub IsFileOf : List Seen → List ℕ → Type 0
IsFileOf packets file = (order : Order) × (parts : Parts) × AllByRecursion (IsWritable parts) packets
    × ((file ≡ classic_file order parts packets) ⊎ (file ≡ blocks_file order packets))

-- a text within the limit is a key text and a file behind it
abbrev pub IsInput : List ℕ → List ℕ → List ℕ → Type 0
IsInput keys file text = IsParted text keys file × (length text ≤ most_input)

-- a packet once more, at any time, with one of its own or not
abbrev pub once_more : ℕ → Bool → Unwrapped → Unwrapped
once_more nanos is_untimed u = record u {
  packet = record u.packet {
    head = record u.packet.head { nanos = nanos; is_untimed = is_untimed };
  };
}

-- the number of a packet where one more stands directly behind that of a number, and of a pair of them
abbrev pub moved : ℕ → ℕ → ℕ
moved n m = if nat_lt n m then m + 1 else m

abbrev pub moved_pair : ℕ → ℕ × ℕ → ℕ × ℕ
moved_pair n pair = (moved n pair.0, moved n pair.1)

-- a group more, put last
abbrev pub with_group : Ring → GroupKeys → Ring
with_group ring keys = record ring { groups = ring.groups ++ keys ∷ [] }

-- a packet is no MKPDU that spells the name of a group
abbrev pub IsOfOther : GroupKeys → Unwrapped → Type 0
IsOfOther keys u = (s : Spelled) → u.packet.head.is_ethernet ≡ true
    → reading (frame_of u.packet.octets) ≡ Ok s → has_name s.announcement.ckn keys ≡ false
