-- The packets of the facts of a transcript (this profile's own rule): each frame that was put on the
-- air is one, seen when the time stands so. It moves on ten times a second.
use Rattle.std.specs.Prelude.{⊤, ℕ, ◌*◌, ◌/◌, ◌%◌, ◌≤◌, List, [], ◌∷◌, ◌++◌, length}
use Rattle.std.specs.List.{flat_map}
use Rattle.lan_core.specs.declared.fact.Fact.{Fact}
use Rattle.lan_core.specs.declared.fact.Fact.TheVariants.{Framed}
use Rattle.capture_file.specs.Pcap.{most_written}
use Rattle.capture_file.specs.Records.{Packet}
use Rattle.transcript_reader.specs.Time.{ticks}

-- the frame that a fact puts on the air, if it does
abbrev pub frame_of : Fact → List (List ℕ)
frame_of (Framed k s sec octets) = octets ∷ []
frame_of _ = []

-- all frames that were put on the air
abbrev pub frames : List Fact → List (List ℕ)
frames facts = flat_map frame_of facts

-- octets that are seen after so many ticks: a tick is a tenth of a second
abbrev pub packet_at : ℕ → List ℕ → Packet
packet_at n octets = record { seconds = n / 10; micros = n % 10 * 100000; octets = octets }

-- the packet of a fact that comes after so many ticks, if it puts a frame on the air
abbrev pub packet_of : ℕ → Fact → List Packet
packet_of n (Framed k s sec octets) = packet_at n octets ∷ []
packet_of n _ = []

-- the packets of facts that come after others
abbrev pub packets_after : List Fact → List Fact → List Packet
packets_after earlier [] = []
packets_after earlier (fact ∷ later) =
    packet_of (ticks earlier) fact ++ packets_after (earlier ++ fact ∷ []) later

-- the packets of all facts of a transcript
abbrev pub packets : List Fact → List Packet
packets facts = packets_after [] facts

-- a fact's frame, if it has one, is short enough for a record
abbrev pub Fits : Fact → Type 0
Fits (Framed k s sec octets) = length octets ≤ most_written
Fits _ = ⊤
