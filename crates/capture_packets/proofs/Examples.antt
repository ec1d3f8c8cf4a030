-- The definitions at worked files.
use Rattle.std.proofs.Common.{◌≡◌, ℕ, Bool, true, false, List, [], ◌∷◌, ◌++◌, take, Option, Some, None, refl, sym, ap, arith}
use Rattle.capture_packets.specs.declared.fault.CaptureFault.{CaptureFault}
use Rattle.capture_packets.specs.declared.fault.CaptureFault.TheVariants.{Magic, LinkType, Cut, Length, Block, Interface}
use Rattle.std.specs.List.{AllByRecursion}
use Rattle.capture_file.specs.declared.order.Order.TheVariants.{Big, Little}
use Rattle.capture_packets.specs.declared.state.Parts.TheVariants.{Micros}
use Rattle.capture_packets.specs.Written.{IsWritable, blocks_file, classic_file}
use Rattle.capture_packets.specs.Packets.{Seen}
use Rattle.capture_packets.specs.Captures.{Refusal, capture, refused_at, with_packets}
use Rattle.capture_packets.specs.Fronts.{IsToldBefore}
use Rattle.capture_packets.specs.Options.{ticks_of}
use Rattle.capture_packets.specs.Blocks.{nanos_of}

-- ---- two packets: five octets of seven, after 1.000002 s, and two after 3.5 s

abbrev seen_of : List ℕ → ℕ → ℕ → Bool → Bool → Seen
seen_of octets original nanos ethernet untimed = record {
  octets = octets;
  head = record {
    original = original;
    nanos = nanos;
    is_ethernet = ethernet;
    is_untimed = untimed;
  };
}

abbrev first : Seen
first = seen_of (1 ∷ 2 ∷ 3 ∷ 4 ∷ 5 ∷ []) 7 1000002000 true false

abbrev second : Seen
second = seen_of (9 ∷ 8 ∷ []) 2 3500000000 true false

abbrev at : ℕ → CaptureFault → Refusal
at place why = record { at = place; why = why }

-- a classic file, most significant octets first, in microseconds
abbrev big_micro : List ℕ
big_micro =
    161 ∷ 178 ∷ 195 ∷ 212 ∷ 0 ∷ 2 ∷ 0 ∷ 4 ∷ 0 ∷ 0 ∷ 0 ∷ 0 ∷ 0 ∷ 0 ∷ 0 ∷ 0 ∷ 0 ∷ 0 ∷ 255 ∷ 255
    ∷ 0 ∷ 0 ∷ 0 ∷ 1 ∷ 0 ∷ 0 ∷ 0 ∷ 1 ∷ 0 ∷ 0 ∷ 0 ∷ 2 ∷ 0 ∷ 0 ∷ 0 ∷ 5 ∷ 0 ∷ 0 ∷ 0 ∷ 7 ∷ 1 ∷ 2 ∷ 3
    ∷ 4 ∷ 5 ∷ 0 ∷ 0 ∷ 0 ∷ 3 ∷ 0 ∷ 7 ∷ 161 ∷ 32 ∷ 0 ∷ 0 ∷ 0 ∷ 2 ∷ 0 ∷ 0 ∷ 0 ∷ 2 ∷ 9 ∷ 8 ∷ []

-- its packets
big_micro_is : capture (big_micro)
    ≡ record { packets = first ∷ second ∷ []; refused = None }
big_micro_is = refl

-- the file that is written of them
abbrev big_micro_written : List ℕ
big_micro_written =
    161 ∷ 178 ∷ 195 ∷ 212 ∷ 0 ∷ 2 ∷ 0 ∷ 4 ∷ 0 ∷ 0 ∷ 0 ∷ 0 ∷ 0 ∷ 0 ∷ 0 ∷ 0 ∷ 0 ∷ 4 ∷ 0 ∷ 0 ∷ 0
    ∷ 0 ∷ 0 ∷ 1 ∷ 0 ∷ 0 ∷ 0 ∷ 1 ∷ 0 ∷ 0 ∷ 0 ∷ 2 ∷ 0 ∷ 0 ∷ 0 ∷ 5 ∷ 0 ∷ 0 ∷ 0 ∷ 7 ∷ 1 ∷ 2 ∷ 3 ∷ 4
    ∷ 5 ∷ 0 ∷ 0 ∷ 0 ∷ 3 ∷ 0 ∷ 7 ∷ 161 ∷ 32 ∷ 0 ∷ 0 ∷ 0 ∷ 2 ∷ 0 ∷ 0 ∷ 0 ∷ 2 ∷ 9 ∷ 8 ∷ []

-- a file of these packets in the other order of octets, and in nanoseconds
abbrev little_nano : List ℕ
little_nano =
    77 ∷ 60 ∷ 178 ∷ 161 ∷ 2 ∷ 0 ∷ 4 ∷ 0 ∷ 0 ∷ 0 ∷ 0 ∷ 0 ∷ 0 ∷ 0 ∷ 0 ∷ 0 ∷ 255 ∷ 255 ∷ 0 ∷ 0 ∷ 1
    ∷ 0 ∷ 0 ∷ 0 ∷ 1 ∷ 0 ∷ 0 ∷ 0 ∷ 208 ∷ 7 ∷ 0 ∷ 0 ∷ 5 ∷ 0 ∷ 0 ∷ 0 ∷ 7 ∷ 0 ∷ 0 ∷ 0 ∷ 1 ∷ 2 ∷ 3
    ∷ 4 ∷ 5 ∷ 3 ∷ 0 ∷ 0 ∷ 0 ∷ 0 ∷ 101 ∷ 205 ∷ 29 ∷ 2 ∷ 0 ∷ 0 ∷ 0 ∷ 2 ∷ 0 ∷ 0 ∷ 0 ∷ 9 ∷ 8 ∷ []

-- its packets
little_nano_is : capture (little_nano)
    ≡ record { packets = first ∷ second ∷ []; refused = None }
little_nano_is = refl

-- a section
abbrev big_section : List ℕ
big_section =
    10 ∷ 13 ∷ 13 ∷ 10 ∷ 0 ∷ 0 ∷ 0 ∷ 28 ∷ 26 ∷ 43 ∷ 60 ∷ 77 ∷ 0 ∷ 1 ∷ 0 ∷ 0 ∷ 255 ∷ 255 ∷ 255
    ∷ 255 ∷ 255 ∷ 255 ∷ 255 ∷ 255 ∷ 0 ∷ 0 ∷ 0 ∷ 28 ∷ []

-- an interface of Ethernet, whose clock has microseconds
abbrev big_interface : List ℕ
big_interface =
    0 ∷ 0 ∷ 0 ∷ 1 ∷ 0 ∷ 0 ∷ 0 ∷ 20 ∷ 0 ∷ 1 ∷ 0 ∷ 0 ∷ 0 ∷ 0 ∷ 0 ∷ 0 ∷ 0 ∷ 0 ∷ 0 ∷ 20 ∷ []

-- the first packet
abbrev big_first : List ℕ
big_first =
    0 ∷ 0 ∷ 0 ∷ 6 ∷ 0 ∷ 0 ∷ 0 ∷ 40 ∷ 0 ∷ 0 ∷ 0 ∷ 0 ∷ 0 ∷ 0 ∷ 0 ∷ 0 ∷ 0 ∷ 15 ∷ 66 ∷ 66 ∷ 0 ∷ 0
    ∷ 0 ∷ 5 ∷ 0 ∷ 0 ∷ 0 ∷ 7 ∷ 1 ∷ 2 ∷ 3 ∷ 4 ∷ 5 ∷ 0 ∷ 0 ∷ 0 ∷ 0 ∷ 0 ∷ 0 ∷ 40 ∷ []

-- the second packet, with an option
abbrev big_second : List ℕ
big_second =
    0 ∷ 0 ∷ 0 ∷ 6 ∷ 0 ∷ 0 ∷ 0 ∷ 44 ∷ 0 ∷ 0 ∷ 0 ∷ 0 ∷ 0 ∷ 0 ∷ 0 ∷ 0 ∷ 0 ∷ 53 ∷ 103 ∷ 224 ∷ 0 ∷ 0
    ∷ 0 ∷ 2 ∷ 0 ∷ 0 ∷ 0 ∷ 2 ∷ 9 ∷ 8 ∷ 0 ∷ 0 ∷ 0 ∷ 1 ∷ 0 ∷ 2 ∷ 104 ∷ 105 ∷ 0 ∷ 0 ∷ 0 ∷ 0 ∷ 0
    ∷ 44 ∷ []

-- both as blocks
big_blocks_are : capture (big_section ++ (big_interface ++ (big_first ++ big_second)))
    ≡ record { packets = first ∷ second ∷ []; refused = None }
big_blocks_are = refl

-- a section in the other order
abbrev little_section : List ℕ
little_section =
    10 ∷ 13 ∷ 13 ∷ 10 ∷ 28 ∷ 0 ∷ 0 ∷ 0 ∷ 77 ∷ 60 ∷ 43 ∷ 26 ∷ 1 ∷ 0 ∷ 0 ∷ 0 ∷ 255 ∷ 255 ∷ 255
    ∷ 255 ∷ 255 ∷ 255 ∷ 255 ∷ 255 ∷ 28 ∷ 0 ∷ 0 ∷ 0 ∷ []

-- an interface whose clock has nanoseconds, by option 9, behind another option
abbrev little_interface : List ℕ
little_interface =
    1 ∷ 0 ∷ 0 ∷ 0 ∷ 40 ∷ 0 ∷ 0 ∷ 0 ∷ 1 ∷ 0 ∷ 0 ∷ 0 ∷ 0 ∷ 0 ∷ 0 ∷ 0 ∷ 2 ∷ 0 ∷ 4 ∷ 0 ∷ 101 ∷ 116
    ∷ 104 ∷ 48 ∷ 9 ∷ 0 ∷ 1 ∷ 0 ∷ 9 ∷ 0 ∷ 0 ∷ 0 ∷ 0 ∷ 0 ∷ 0 ∷ 0 ∷ 40 ∷ 0 ∷ 0 ∷ 0 ∷ []

-- the first packet
abbrev little_first : List ℕ
little_first =
    6 ∷ 0 ∷ 0 ∷ 0 ∷ 40 ∷ 0 ∷ 0 ∷ 0 ∷ 0 ∷ 0 ∷ 0 ∷ 0 ∷ 0 ∷ 0 ∷ 0 ∷ 0 ∷ 208 ∷ 209 ∷ 154 ∷ 59 ∷ 5
    ∷ 0 ∷ 0 ∷ 0 ∷ 7 ∷ 0 ∷ 0 ∷ 0 ∷ 1 ∷ 2 ∷ 3 ∷ 4 ∷ 5 ∷ 0 ∷ 0 ∷ 0 ∷ 40 ∷ 0 ∷ 0 ∷ 0 ∷ []

-- the second packet
abbrev little_second : List ℕ
little_second =
    6 ∷ 0 ∷ 0 ∷ 0 ∷ 36 ∷ 0 ∷ 0 ∷ 0 ∷ 0 ∷ 0 ∷ 0 ∷ 0 ∷ 0 ∷ 0 ∷ 0 ∷ 0 ∷ 0 ∷ 195 ∷ 157 ∷ 208 ∷ 2
    ∷ 0 ∷ 0 ∷ 0 ∷ 2 ∷ 0 ∷ 0 ∷ 0 ∷ 9 ∷ 8 ∷ 0 ∷ 0 ∷ 36 ∷ 0 ∷ 0 ∷ 0 ∷ []

-- a block of another type, and a custom one
abbrev skipped : List ℕ
skipped =
    5 ∷ 0 ∷ 0 ∷ 0 ∷ 16 ∷ 0 ∷ 0 ∷ 0 ∷ 1 ∷ 2 ∷ 3 ∷ 4 ∷ 16 ∷ 0 ∷ 0 ∷ 0 ∷ 173 ∷ 11 ∷ 0 ∷ 0 ∷ 12 ∷ 0
    ∷ 0 ∷ 0 ∷ 12 ∷ 0 ∷ 0 ∷ 0 ∷ []

-- both as blocks, with skipped ones between them
little_blocks_are : capture (little_section ++ (little_interface ++ (little_first ++ (skipped ++ little_second))))
    ≡ record { packets = first ∷ second ∷ []; refused = None }
little_blocks_are = refl

-- two sections, of which the second has the other order, and interfaces of its own
sections_are : capture (little_section ++ (little_interface ++ (little_first ++ (big_section ++ (big_interface ++ big_second)))))
    ≡ record { packets = first ∷ second ∷ []; refused = None }
sections_are = refl

-- an interface of another link type, with a snap length of 2
abbrev far_interface : List ℕ
far_interface =
    1 ∷ 0 ∷ 0 ∷ 0 ∷ 20 ∷ 0 ∷ 0 ∷ 0 ∷ 113 ∷ 0 ∷ 0 ∷ 0 ∷ 2 ∷ 0 ∷ 0 ∷ 0 ∷ 20 ∷ 0 ∷ 0 ∷ 0 ∷ []

-- a simple packet of five octets, of which two are kept
abbrev little_simple : List ℕ
little_simple =
    3 ∷ 0 ∷ 0 ∷ 0 ∷ 20 ∷ 0 ∷ 0 ∷ 0 ∷ 5 ∷ 0 ∷ 0 ∷ 0 ∷ 1 ∷ 2 ∷ 0 ∷ 0 ∷ 20 ∷ 0 ∷ 0 ∷ 0 ∷ []

-- the first packet, on interface 1
abbrev little_first_of_1 : List ℕ
little_first_of_1 =
    6 ∷ 0 ∷ 0 ∷ 0 ∷ 40 ∷ 0 ∷ 0 ∷ 0 ∷ 1 ∷ 0 ∷ 0 ∷ 0 ∷ 0 ∷ 0 ∷ 0 ∷ 0 ∷ 208 ∷ 209 ∷ 154 ∷ 59 ∷ 5
    ∷ 0 ∷ 0 ∷ 0 ∷ 7 ∷ 0 ∷ 0 ∷ 0 ∷ 1 ∷ 2 ∷ 3 ∷ 4 ∷ 5 ∷ 0 ∷ 0 ∷ 0 ∷ 40 ∷ 0 ∷ 0 ∷ 0 ∷ []

-- a simple packet has the time of the packet before it, and 0 where there is none; its link is that of interface 0
simple_is : capture (little_section ++ (far_interface ++ (little_interface ++ (little_simple ++ (little_first_of_1 ++ little_simple)))))
    ≡ record { packets = (seen_of (1 ∷ 2 ∷ []) 5 0 false true) ∷ first ∷ (seen_of (1 ∷ 2 ∷ []) 5 1000002000 false true) ∷ []; refused = None }
simple_is = refl

-- ---- refusals

-- nothing
no_octet : capture ([])
    ≡ record { packets = []; refused = Some (at 0 Cut) }
no_octet = refl

-- another first octet
no_magic : capture (0 ∷ big_micro)
    ≡ record { packets = []; refused = Some (at 0 Magic) }
no_magic = refl

-- a classic file of another link type
abbrev other_link : List ℕ
other_link =
    161 ∷ 178 ∷ 195 ∷ 212 ∷ 0 ∷ 2 ∷ 0 ∷ 4 ∷ 0 ∷ 0 ∷ 0 ∷ 0 ∷ 0 ∷ 0 ∷ 0 ∷ 0 ∷ 0 ∷ 0 ∷ 255 ∷ 255
    ∷ 0 ∷ 0 ∷ 0 ∷ 113 ∷ []

-- it is refused
other_link_is : capture (other_link)
    ≡ record { packets = []; refused = Some (at 0 LinkType) }
other_link_is = refl

-- a cut head
head_is_cut : capture (take 23 big_micro)
    ≡ record { packets = []; refused = Some (at 0 Cut) }
head_is_cut = refl

-- a cut last record: those before it are told
record_is_cut : capture (take 62 big_micro)
    ≡ record { packets = first ∷ []; refused = Some (at 45 Cut) }
record_is_cut = refl

-- a record of which 262,145 octets were kept
abbrev long : List ℕ
long =
    0 ∷ 0 ∷ 0 ∷ 0 ∷ 0 ∷ 0 ∷ 0 ∷ 0 ∷ 0 ∷ 4 ∷ 0 ∷ 1 ∷ 0 ∷ 4 ∷ 0 ∷ 1 ∷ []

-- it is refused
long_is : capture (big_micro ++ long)
    ≡ record { packets = first ∷ second ∷ []; refused = Some (at 63 Length) }
long_is = refl

-- a cut block
block_is_cut : capture (little_section ++ (little_interface ++ take 38 little_first))
    ≡ record { packets = []; refused = Some (at 68 Cut) }
block_is_cut = refl

-- a packet of an interface that its section has not
no_interface : capture (little_section ++ (little_interface ++ (big_section ++ big_first)))
    ≡ record { packets = []; refused = Some (at 96 Interface) }
no_interface = refl

-- a simple packet of a section without one
no_interface_0 : capture (little_section ++ little_simple)
    ≡ record { packets = []; refused = Some (at 28 Interface) }
no_interface_0 = refl

-- an old packet block
abbrev old_packet : List ℕ
old_packet =
    2 ∷ 0 ∷ 0 ∷ 0 ∷ 32 ∷ 0 ∷ 0 ∷ 0 ∷ 0 ∷ 0 ∷ 0 ∷ 0 ∷ 0 ∷ 0 ∷ 0 ∷ 0 ∷ 0 ∷ 0 ∷ 0 ∷ 0 ∷ 0 ∷ 0 ∷ 0
    ∷ 0 ∷ 0 ∷ 0 ∷ 0 ∷ 0 ∷ 32 ∷ 0 ∷ 0 ∷ 0 ∷ []

-- it is refused
old_packet_is : capture (little_section ++ old_packet)
    ≡ record { packets = []; refused = Some (at 28 Block) }
old_packet_is = refl

-- a section of another major version
abbrev version_2 : List ℕ
version_2 =
    10 ∷ 13 ∷ 13 ∷ 10 ∷ 28 ∷ 0 ∷ 0 ∷ 0 ∷ 77 ∷ 60 ∷ 43 ∷ 26 ∷ 2 ∷ 0 ∷ 0 ∷ 0 ∷ 255 ∷ 255 ∷ 255
    ∷ 255 ∷ 255 ∷ 255 ∷ 255 ∷ 255 ∷ 28 ∷ 0 ∷ 0 ∷ 0 ∷ []

-- it is refused
version_2_is : capture (version_2)
    ≡ record { packets = []; refused = Some (at 0 Block) }
version_2_is = refl

-- a packet block whose totals differ
abbrev other_total : List ℕ
other_total =
    6 ∷ 0 ∷ 0 ∷ 0 ∷ 40 ∷ 0 ∷ 0 ∷ 0 ∷ 0 ∷ 0 ∷ 0 ∷ 0 ∷ 0 ∷ 0 ∷ 0 ∷ 0 ∷ 208 ∷ 209 ∷ 154 ∷ 59 ∷ 5
    ∷ 0 ∷ 0 ∷ 0 ∷ 7 ∷ 0 ∷ 0 ∷ 0 ∷ 1 ∷ 2 ∷ 3 ∷ 4 ∷ 5 ∷ 0 ∷ 0 ∷ 0 ∷ 44 ∷ 0 ∷ 0 ∷ 0 ∷ []

-- it is refused
other_total_is : capture (little_section ++ (little_interface ++ other_total))
    ≡ record { packets = []; refused = Some (at 68 Block) }
other_total_is = refl

-- a block that says it has 4 GB
abbrev wild : List ℕ
wild =
    5 ∷ 0 ∷ 0 ∷ 0 ∷ 252 ∷ 255 ∷ 255 ∷ 255 ∷ 0 ∷ 0 ∷ 0 ∷ 0 ∷ 0 ∷ 0 ∷ 0 ∷ 0 ∷ 0 ∷ 0 ∷ 0 ∷ 0 ∷ 0
    ∷ 0 ∷ 0 ∷ 0 ∷ 0 ∷ 0 ∷ 0 ∷ 0 ∷ []

-- it is cut
wild_is : capture (little_section ++ wild)
    ≡ record { packets = []; refused = Some (at 28 Cut) }
wild_is = refl

-- a block whose total is no multiple of four
abbrev odd_total : List ℕ
odd_total =
    5 ∷ 0 ∷ 0 ∷ 0 ∷ 13 ∷ 0 ∷ 0 ∷ 0 ∷ 0 ∷ 0 ∷ 0 ∷ 0 ∷ 0 ∷ 0 ∷ 0 ∷ 0 ∷ 0 ∷ 0 ∷ 0 ∷ 0 ∷ 0 ∷ 0 ∷ 0
    ∷ 0 ∷ 0 ∷ 0 ∷ 0 ∷ 0 ∷ []

-- it is refused
odd_total_is : capture (little_section ++ odd_total)
    ≡ record { packets = []; refused = Some (at 28 Block) }
odd_total_is = refl

-- a packet block with fewer octets than it says were kept
abbrev too_many : List ℕ
too_many =
    6 ∷ 0 ∷ 0 ∷ 0 ∷ 40 ∷ 0 ∷ 0 ∷ 0 ∷ 0 ∷ 0 ∷ 0 ∷ 0 ∷ 0 ∷ 0 ∷ 0 ∷ 0 ∷ 208 ∷ 209 ∷ 154 ∷ 59 ∷ 9
    ∷ 0 ∷ 0 ∷ 0 ∷ 7 ∷ 0 ∷ 0 ∷ 0 ∷ 1 ∷ 2 ∷ 3 ∷ 4 ∷ 5 ∷ 0 ∷ 0 ∷ 0 ∷ 40 ∷ 0 ∷ 0 ∷ 0 ∷ []

-- it is refused
too_many_is : capture (little_section ++ (little_interface ++ too_many))
    ≡ record { packets = []; refused = Some (at 68 Block) }
too_many_is = refl

-- an interface whose option goes past its end
abbrev bad_option : List ℕ
bad_option =
    1 ∷ 0 ∷ 0 ∷ 0 ∷ 28 ∷ 0 ∷ 0 ∷ 0 ∷ 1 ∷ 0 ∷ 0 ∷ 0 ∷ 0 ∷ 0 ∷ 0 ∷ 0 ∷ 2 ∷ 0 ∷ 5 ∷ 0 ∷ 0 ∷ 0 ∷ 0
    ∷ 0 ∷ 28 ∷ 0 ∷ 0 ∷ 0 ∷ []

-- it is refused
bad_option_is : capture (little_section ++ bad_option)
    ≡ record { packets = []; refused = Some (at 28 Block) }
bad_option_is = refl

-- an interface whose clock has 10^20 ticks a second
abbrev fine_clock : List ℕ
fine_clock =
    1 ∷ 0 ∷ 0 ∷ 0 ∷ 28 ∷ 0 ∷ 0 ∷ 0 ∷ 1 ∷ 0 ∷ 0 ∷ 0 ∷ 0 ∷ 0 ∷ 0 ∷ 0 ∷ 9 ∷ 0 ∷ 1 ∷ 0 ∷ 20 ∷ 0 ∷ 0
    ∷ 0 ∷ 28 ∷ 0 ∷ 0 ∷ 0 ∷ []

-- it is refused
fine_clock_is : capture (little_section ++ fine_clock)
    ≡ record { packets = []; refused = Some (at 28 Block) }
fine_clock_is = refl

-- ---- what can be written: both packets, with microseconds too

both_writable : AllByRecursion (IsWritable Micros) (first ∷ second ∷ [])
both_writable = (
  record { few = omega arith; original = omega arith; seconds = omega arith; whole = refl; ethernet = refl; timed = refl },
  (record { few = omega arith; original = omega arith; seconds = omega arith; whole = refl; ethernet = refl; timed = refl }, tt),
)

-- the file that is written of them is the one above
written_is : classic_file Big Micros (first ∷ second ∷ []) ≡ big_micro_written
written_is = refl

blocks_written : capture (blocks_file Little (first ∷ second ∷ [])) ≡ record { packets = first ∷ second ∷ []; refused = None }
blocks_written = refl

-- ---- clocks

milli : ticks_of 3 ≡ Some 1000
milli = refl

finest : ticks_of 19 ≡ Some 10000000000000000000
finest = refl

binary : ticks_of 138 ≡ Some 1024
binary = refl

finest_binary : ticks_of 191 ≡ Some 9223372036854775808
finest_binary = refl

too_fine : ticks_of 20 ≡ None
too_fine = refl

too_fine_binary : ticks_of 192 ≡ None
too_fine_binary = refl

-- half a second, rounded down to nanoseconds, and a time past 2^64 - 1
half : nanos_of 512 1024 ≡ 500000000
half = refl

third : nanos_of 1 3 ≡ 333333333
third = refl

latest : nanos_of 18446744073709551615 1 ≡ 18446744073709551615
latest = refl

-- ---- fronts

why_in : Option Refusal → CaptureFault
why_in None = Magic
why_in (Some r) = r.why

original_in : List Seen → ℕ
original_in [] = 0
original_in (p ∷ packets) = p.head.original

-- a capture that was broken off in its second packet has the first one
front_is : IsToldBefore (capture (take 62 big_micro)) (capture big_micro)
unfolding why_in
front_is = record {
  later = second ∷ [];
  packets = refl;
  refused = λ place why is other. absurd (other (sym (ap why_in is)));
}

-- what begins with another packet is told of no front
no_front : (rest : List Seen) → IsToldBefore (record { packets = second ∷ []; refused = None }) (record { packets = first ∷ rest; refused = None })
    → ⊥
unfolding original_in
no_front rest b = let e : 7 ≡ 2 = ap original_in b.packets in cc e

-- what is refused behind a front stays refused, and no packet comes behind it
front_refused : IsToldBefore (capture (big_micro ++ long)) (capture (big_micro ++ (long ++ big_micro)))
front_refused = record { later = []; packets = refl; refused = λ place why is other. refl }

no_more_behind : IsToldBefore (capture (big_micro ++ long)) (record { packets = first ∷ second ∷ first ∷ []; refused = None }) → ⊥
no_more_behind b = cc (b.refused 63 Length refl (λ e. cc e))

-- packets that were read stand before what is told behind them
behind_one : with_packets (first ∷ []) (refused_at 63 Length)
    ≡ record { packets = first ∷ []; refused = Some (record { at = 63; why = Length }) }
behind_one = refl
