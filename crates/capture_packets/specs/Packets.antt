-- What a packet is, and what is known of a file before its next record or block.
use Rattle.std.specs.Prelude.{ℕ, List}
use Rattle.capture_file.specs.declared.order.Order.{Order}
use Rattle.capture_packets.specs.declared.packet.PacketHead.{PacketHead}
use Rattle.capture_packets.specs.declared.packet.Packet.{Packet}
use Rattle.capture_packets.specs.declared.state.Layout.{Layout}
use Rattle.capture_packets.specs.declared.state.Interface.{Interface}
use Rattle.capture_packets.specs.declared.state.State.{State}

-- a packet: the octets that were kept, and what is told beside them
pub record Seen : Type 0 where
  pub octets : List ℕ
  pub head : PacketHead

-- a packet without where it lies in memory
abbrev pub seen : Packet → Seen
seen packet = record { octets = packet.octets.items; head = packet.head }

-- What is known of a file before its next record or block: how it is laid out, the order of its octets
-- or of the section's, the interfaces of the section, and the time of the last packet, or 0.
pub record Context : Type 0 where
  pub layout : Layout
  pub order : Order
  pub interfaces : List Interface
  pub last : ℕ

abbrev pub context : State → Context
context state = record {
  layout = state.layout;
  order = state.order;
  interfaces = state.interfaces.items;
  last = state.last;
}
