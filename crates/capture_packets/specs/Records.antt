-- The classic pcap format: a head of 24 octets, and for each packet a record, which is a header of 16
-- octets and what was kept of the packet.
use Rattle.std.specs.Prelude.{ℕ, ◌+◌, ◌*◌, ◌^◌, ◌==◌, nat_lt, if◌then◌else◌, true, false, List, length, Option, Some, None, Result, Ok, Err}
use Rattle.capture_file.specs.declared.order.Order.{Order}
use Rattle.capture_file.specs.Pcap.{micro_magic, most_kept, nano_magic, number_in}
use Rattle.capture_packets.specs.declared.block.Block.{Block}
use Rattle.capture_packets.specs.declared.block.What.TheVariants as what
use Rattle.capture_packets.specs.declared.fault.CaptureFault.{CaptureFault}
use Rattle.capture_packets.specs.declared.fault.CaptureFault.TheVariants.{Cut, Length}
use Rattle.capture_packets.specs.declared.state.Parts.{Parts}
use Rattle.capture_packets.specs.declared.state.Parts.TheVariants.{Micros, Nanos}
use Rattle.capture_packets.specs.Numbers.{number_at}

-- where octets begin with a magic number in this order: what the parts of a second are
abbrev pub parts_in : Order → List ℕ → Option Parts
parts_in order octets =
    if number_in order octets == micro_magic then Some Micros
    else if number_in order octets == nano_magic then Some Nanos
    else None

-- how many nanoseconds a part of a second has
abbrev pub unit : Parts → ℕ
unit Micros = 1000
unit Nanos = 1

-- A record, by its header: seconds and parts, how many octets were kept, and how many there were.
-- The first refusal.
abbrev pub record_in : Order → Parts → List ℕ → Result Block CaptureFault
record_in order parts octets =
    if nat_lt (length octets) 16 then Err Cut
    else if nat_lt most_kept (number_at order 8 octets) then Err Length
    else Ok (record {
      before = 16;
      kept = number_at order 8 octets;
      behind = 0;
      what = what.Packet (record {
        original = number_at order 12 octets;
        nanos = number_at order 0 octets * 10 ^ 9 + number_at order 4 octets * unit parts;
        is_ethernet = true;
        is_untimed = false;
      });
    })
