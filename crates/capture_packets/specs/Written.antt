-- How packets of Ethernet with times are written, in the classic format and in pcapng, in either order
-- of octets.
use Rattle.std.specs.Prelude.{◌≡◌, ℕ, ◌+◌, ◌-◌, ◌/◌, ◌%◌, ◌^◌, ◌<◌, ◌≤◌, true, false, List, [], ◌∷◌, ◌++◌, flat_map, length, replicate}
use Rattle.byteorder.specs.Endian.{big_bytes, little_bytes}
use Rattle.capture_file.specs.declared.order.Order.{Order}
use Rattle.capture_file.specs.declared.order.Order.TheVariants.{Big, Little}
use Rattle.capture_file.specs.Pcap.{ethernet, micro_magic, most_kept, nano_magic}
use Rattle.capture_packets.specs.declared.state.Parts.{Parts}
use Rattle.capture_packets.specs.declared.state.Parts.TheVariants.{Micros, Nanos}
use Rattle.capture_packets.specs.Packets.{Seen}
use Rattle.capture_packets.specs.Numbers.{padded}
use Rattle.capture_packets.specs.Records.{unit}
use Rattle.capture_packets.specs.Blocks.{enhanced_type, interface_type, section_type}

-- a number in four octets, and in two
abbrev pub number : Order → ℕ → List ℕ
number Big n = big_bytes 4 n
number Little n = little_bytes 4 n

abbrev pub half : Order → ℕ → List ℕ
half Big n = big_bytes 2 n
half Little n = little_bytes 2 n

-- ---- the classic format

abbrev pub magic : Parts → ℕ
magic Micros = micro_magic
magic Nanos = nano_magic

-- the head: magic number, version 2.4, time zone and accuracy, the most octets that are kept, link type
abbrev pub classic_head : Order → Parts → List ℕ
classic_head order parts =
    number order (magic parts) ++ (half order 2 ++ (half order 4 ++ (number order 0 ++ (number order 0
    ++ (number order most_kept ++ number order ethernet)))))

-- the record of a packet: seconds and parts, how many octets are kept, and how many there were
abbrev pub record_of : Order → Parts → Seen → List ℕ
record_of order parts p =
    number order (p.head.nanos / 10 ^ 9) ++ (number order (p.head.nanos % 10 ^ 9 / unit parts)
    ++ (number order (length p.octets) ++ (number order p.head.original ++ p.octets)))

abbrev pub classic_file : Order → Parts → List Seen → List ℕ
classic_file order parts packets = classic_head order parts ++ flat_map (record_of order parts) packets

-- ---- pcapng

-- a section of version 1.0, whose length isn't told
abbrev pub section_of : Order → List ℕ
section_of order =
    number order section_type ++ (number order 28 ++ (number order 0x1a2b3c4d ++ (half order 1
    ++ (half order 0 ++ (number order (2 ^ 32 - 1) ++ (number order (2 ^ 32 - 1) ++ number order 28))))))

-- an interface of Ethernet whose clock has nanoseconds
abbrev pub interface_of : Order → List ℕ
interface_of order =
    number order interface_type ++ (number order 28 ++ (half order ethernet ++ (half order 0
    ++ (number order 0 ++ (half order 9 ++ (half order 1 ++ ((9 ∷ 0 ∷ 0 ∷ 0 ∷ []) ++ number order 28)))))))

-- how long the block of a packet is
abbrev pub total_of : Seen → ℕ
total_of p = 32 + padded (length p.octets)

-- the block of a packet: interface 0, time high and low, how many octets are kept, and how many there
-- were
abbrev pub block_of : Order → Seen → List ℕ
block_of order p =
    number order enhanced_type ++ (number order (total_of p) ++ (number order 0
    ++ (number order (p.head.nanos / 2 ^ 32) ++ (number order (p.head.nanos % 2 ^ 32)
    ++ (number order (length p.octets) ++ (number order p.head.original
    ++ (p.octets ++ (replicate (padded (length p.octets) - length p.octets) 0
    ++ number order (total_of p)))))))))

abbrev pub blocks_file : Order → List Seen → List ℕ
blocks_file order packets =
    section_of order ++ (interface_of order ++ flat_map (block_of order) packets)

-- ---- what can be written

-- a packet that both formats can tell
pub record IsWritable (parts : Parts) (p : Seen) : Type 0 where
  pub few : length p.octets ≤ most_kept
  pub original : p.head.original < 2 ^ 32
  pub seconds : p.head.nanos / 10 ^ 9 < 2 ^ 32
  pub whole : p.head.nanos % unit parts ≡ 0
  pub ethernet : p.head.is_ethernet ≡ true
  pub timed : p.head.is_untimed ≡ false
