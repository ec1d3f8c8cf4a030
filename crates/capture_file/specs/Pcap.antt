-- Files of captured packets in the classic pcap format: a head of 24 octets, and for each packet a
-- record, which is a header of 16 octets and what was kept of the packet.
use Rattle.std.specs.Prelude.{ℕ, ◌^◌, ◌%◌, ◌==◌, ◌||◌, nat_lt, Bool, if◌then◌else◌, List, ◌++◌, length, drop, Option, Some, None, Result, Ok, Err}
use Rattle.byteorder.specs.Endian.{big_bytes, big_number, little_number}
use Rattle.capture_file.specs.declared.order.Order.{Order}
use Rattle.capture_file.specs.declared.order.Order.TheVariants.{Big, Little}
use Rattle.capture_file.specs.declared.fault.CaptureFault.{CaptureFault}
use Rattle.capture_file.specs.declared.fault.CaptureFault.TheVariants.{Magic, LinkType, Length}

-- the magic number of a file whose times are in microseconds
abbrev pub micro_magic : ℕ
micro_magic = 0xa1b2c3d4

-- that of a file whose times are in nanoseconds
abbrev pub nano_magic : ℕ
nano_magic = 0xa1b23c4d

-- the link type of Ethernet
abbrev pub ethernet : ℕ
ethernet = 1

-- ---- what is written: of each number the octet of greatest value first

-- at most so many octets are written of a packet
abbrev pub most_written : ℕ
most_written = 65535

-- the head: magic number, version 2.4, time zone and accuracy, the most octets that are kept of a
-- packet, link type
abbrev pub head_octets : List ℕ
head_octets =
    big_bytes 4 micro_magic ++ (big_bytes 2 2 ++ (big_bytes 2 4 ++ (big_bytes 4 0 ++ (big_bytes 4 0
    ++ (big_bytes 4 most_written ++ big_bytes 4 ethernet)))))

-- the header of a record: seconds and microseconds, how many octets are kept, and how many there
-- were
abbrev pub header_octets : ℕ → ℕ → ℕ → List ℕ
header_octets seconds micros count =
    big_bytes 4 seconds ++ (big_bytes 4 micros ++ (big_bytes 4 count ++ big_bytes 4 count))

-- the record of a packet that is kept whole
abbrev pub record_octets : ℕ → ℕ → List ℕ → List ℕ
record_octets seconds micros packet = header_octets seconds micros (length packet) ++ packet

-- ---- what is read, in either order of octets

-- the number in the first four octets
abbrev pub number_in : Order → List ℕ → ℕ
number_in Big octets = big_number 4 octets
number_in Little octets = little_number 4 octets

abbrev pub is_magic : ℕ → Bool
is_magic n = (n == micro_magic) || (n == nano_magic)

-- the order in which the head begins with a magic number
abbrev pub order_of : List ℕ → Option Order
order_of head =
    if is_magic (number_in Big head) then Some Big
    else if is_magic (number_in Little head) then Some Little
    else None

-- the link type, in the low 16 bits of the last field
abbrev pub link_type : Order → List ℕ → ℕ
link_type order head = number_in order (drop 20 head) % 2 ^ 16

abbrev pub order_or : List ℕ → Option Order → Result Order CaptureFault
order_or head None = Err Magic
order_or head (Some order) = if link_type order head == ethernet then Ok order else Err LinkType

-- the order of octets of a file, by its head, or the first refusal of the head
abbrev pub head_read : List ℕ → Result Order CaptureFault
head_read head = order_or head (order_of head)

-- at most so many octets are read of a packet
abbrev pub most_kept : ℕ
most_kept = 262144

-- how many octets were kept, by a record's header, or its refusal
abbrev pub kept_read : Order → List ℕ → Result ℕ CaptureFault
kept_read order header =
    let count = number_in order (drop 8 header) in
    if nat_lt most_kept count then Err Length else Ok count
