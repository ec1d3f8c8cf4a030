-- The pcapng format: a file is a list of blocks. A block is its type (4 octets), its total length (4),
-- its body, and the total length again (4), in the order of octets of its section.
use Rattle.std.specs.Prelude.{ℕ, ◌+◌, ◌-◌, ◌*◌, ◌/◌, ◌%◌, ◌^◌, ◌==◌, ◌&&◌, not, nat_le, nat_lt, min, Bool, true, false, if◌then◌else◌, List, length, Option, Some, None, Result, Ok, Err, slice_get}
use Rattle.capture_file.specs.declared.order.Order.{Order}
use Rattle.capture_file.specs.declared.order.Order.TheVariants.{Big, Little}
use Rattle.capture_file.specs.Pcap.{ethernet, most_kept}
use Rattle.capture_packets.specs.declared.block.Block.{Block}
use Rattle.capture_packets.specs.declared.block.What.{What}
use Rattle.capture_packets.specs.declared.block.What.TheVariants as what
use Rattle.capture_packets.specs.declared.fault.CaptureFault.{CaptureFault}
use Rattle.capture_packets.specs.declared.fault.CaptureFault.TheVariants as fault
use Rattle.capture_packets.specs.declared.packet.PacketHead.{PacketHead}
use Rattle.capture_packets.specs.declared.state.Interface.{Interface}
use Rattle.capture_packets.specs.Numbers.{half_at, number_at, padded}

-- ---- types and totals

-- a section: its type reads the same in both orders
abbrev pub section_type : ℕ
section_type = 0x0a0d0d0a

abbrev pub interface_type : ℕ
interface_type = 1

-- the old packet block
abbrev pub old_packet_type : ℕ
old_packet_type = 2

abbrev pub simple_type : ℕ
simple_type = 3

abbrev pub enhanced_type : ℕ
enhanced_type = 6

-- the least total length of a block of this type
abbrev pub least_total : ℕ → ℕ
least_total kind =
    if kind == section_type then 28
    else if kind == interface_type then 20
    else if kind == enhanced_type then 32
    else if kind == simple_type then 16
    else 12

-- a block of this type may have this total length: a multiple of four, and not too short. An old packet
-- block has none.
abbrev pub is_total : ℕ → ℕ → Bool
is_total kind total =
    (total % 4 == 0) && (nat_le (least_total kind) total && not (kind == old_packet_type))

-- ---- a section

-- the order in which octets 8 to 11 are the number 1a2b3c4d
abbrev pub marked_order : List ℕ → Option Order
marked_order octets =
    if number_at Big 8 octets == 0x1a2b3c4d then Some Big
    else if number_at Little 8 octets == 0x1a2b3c4d then Some Little
    else None

abbrev pub section_by : List ℕ → Option Order → Result Block CaptureFault
section_by octets None = Err fault.Block
section_by octets (Some order) =
    if not (is_total section_type (number_at order 4 octets)) then Err fault.Block
    else if nat_lt (length octets) 14 then Err fault.Cut
    else if not (half_at order 12 octets == 1) then Err fault.Block
    else Ok (record {
      before = 14;
      kept = 0;
      behind = number_at order 4 octets - 18;
      what = what.Section order;
    })

-- a section: octets 12 and 13 are its major version, 1
abbrev pub section_in : List ℕ → Result Block CaptureFault
section_in octets =
    if nat_lt (length octets) 12 then Err fault.Cut else section_by octets (marked_order octets)

-- ---- an interface

-- an interface: link type (2 octets), 2 octets, snap length (4), options
abbrev pub interface_in : Order → List ℕ → Result Block CaptureFault
interface_in order octets =
    if nat_lt (length octets) 16 then Err fault.Cut
    else Ok (record {
      before = 16;
      kept = number_at order 4 octets - 20;
      behind = 0;
      what = what.Interface (half_at order 8 octets == ethernet) (number_at order 12 octets);
    })

-- ---- packets

-- a packet of which so many octets were kept, which stand behind so many others
abbrev pub packet_by : ℕ → ℕ → ℕ → What → Result Block CaptureFault
packet_by total before kept packet =
    if nat_lt most_kept kept then Err fault.Length
    else if nat_lt total (before + padded kept + 4) then Err fault.Block
    else Ok (record {
      before = before;
      kept = kept;
      behind = total - 4 - before - kept;
      what = packet;
    })

-- the time of so many ticks, in nanoseconds, by a clock that has so many a second
abbrev pub nanos_of : ℕ → ℕ → ℕ
nanos_of ticks second = min (ticks * 10 ^ 9 / second) (2 ^ 64 - 1)

-- what an enhanced packet of an interface tells beside its octets
abbrev pub enhanced_head : Order → List ℕ → Interface → PacketHead
enhanced_head order octets interface = record {
  original = number_at order 24 octets;
  nanos = nanos_of (number_at order 12 octets * 2 ^ 32 + number_at order 16 octets) interface.ticks;
  is_ethernet = interface.is_ethernet;
  is_untimed = false;
}

abbrev pub enhanced_by : Order → List ℕ → Option Interface → Result Block CaptureFault
enhanced_by order octets None = Err fault.Interface
enhanced_by order octets (Some interface) =
    packet_by (number_at order 4 octets) 28 (number_at order 20 octets)
    (what.Packet (enhanced_head order octets interface))

-- an enhanced packet: interface, time high, time low, kept, original (4 octets each), octets, padding,
-- options
abbrev pub enhanced_in : Order → List Interface → List ℕ → Result Block CaptureFault
enhanced_in order interfaces octets =
    if nat_lt (length octets) 28 then Err fault.Cut
    else enhanced_by order octets (slice_get interfaces (number_at order 8 octets))

-- how many octets are kept of a packet under a snap length, where 0 sets no limit
abbrev pub kept_under : ℕ → ℕ → ℕ
kept_under snap original = if snap == 0 then original else min original snap

abbrev pub simple_by : Order → ℕ → List ℕ → Option Interface → Result Block CaptureFault
simple_by order last octets None = Err fault.Interface
simple_by order last octets (Some interface) =
    packet_by (number_at order 4 octets) 12
    (kept_under interface.snap (number_at order 8 octets)) (what.Packet (record {
      original = number_at order 8 octets;
      nanos = last;
      is_ethernet = interface.is_ethernet;
      is_untimed = true;
    }))

-- a simple packet, of interface 0: original (4 octets), octets, padding. It has the time of the packet
-- before it.
abbrev pub simple_in : Order → List Interface → ℕ → List ℕ → Result Block CaptureFault
simple_in order interfaces last octets =
    if nat_lt (length octets) 12 then Err fault.Cut
    else simple_by order last octets (slice_get interfaces 0)

-- ---- any block

-- a block of this type that is no section
abbrev pub typed_in : ℕ → Order → List Interface → ℕ → List ℕ → Result Block CaptureFault
typed_in kind order interfaces last octets =
    if not (is_total kind (number_at order 4 octets)) then Err fault.Block
    else if kind == interface_type then interface_in order octets
    else if kind == enhanced_type then enhanced_in order interfaces octets
    else if kind == simple_type then simple_in order interfaces last octets
    else Ok (record {
      before = 8;
      kept = 0;
      behind = number_at order 4 octets - 12;
      what = what.Other;
    })

-- a block by its fields, or the first refusal
abbrev pub block_in : Order → List Interface → ℕ → List ℕ → Result Block CaptureFault
block_in order interfaces last octets =
    if nat_lt (length octets) 8 then Err fault.Cut
    else if number_at order 0 octets == section_type then section_in octets
    else typed_in (number_at order 0 octets) order interfaces last octets
