-- The packets of a file, and where and why it is refused.
use Rattle.std.specs.Prelude.{ℕ, zero, suc, ◌+◌, ◌-◌, ◌==◌, ◌||◌, ◌&&◌, not, nat_lt, Bool, true, if◌then◌else◌, List, [], ◌∷◌, ◌++◌, drop, length, take, Option, Some, None, Result, Ok, Err}
use Rattle.std.specs.Option.{is_some}
use Rattle.capture_file.specs.declared.order.Order.{Order}
use Rattle.capture_file.specs.declared.order.Order.TheVariants.{Big, Little}
use Rattle.capture_file.specs.Pcap.{ethernet, link_type, number_in}
use Rattle.capture_packets.specs.declared.block.Block.{Block}
use Rattle.capture_packets.specs.declared.block.What.{What}
use Rattle.capture_packets.specs.declared.block.What.TheVariants as what
use Rattle.capture_packets.specs.declared.fault.CaptureFault.{CaptureFault}
use Rattle.capture_packets.specs.declared.fault.CaptureFault.TheVariants as fault
use Rattle.capture_packets.specs.declared.head.Head.{Head}
use Rattle.capture_packets.specs.declared.state.Layout.{Layout}
use Rattle.capture_packets.specs.declared.state.Layout.TheVariants.{Records, Blocks}
use Rattle.capture_packets.specs.declared.state.Parts.{Parts}
use Rattle.capture_packets.specs.Packets.{Context, Seen}
use Rattle.capture_packets.specs.Numbers.{part}
use Rattle.capture_packets.specs.Records.{parts_in, record_in}
use Rattle.capture_packets.specs.Options.{ticks_in}
use Rattle.capture_packets.specs.Blocks.{block_in, section_type}

-- ---- one record or block

-- all fields of a record or a block stand in so many octets
abbrev pub most_fields : Layout → ℕ
most_fields (Records parts) = 16
most_fields Blocks = 28

-- the record or the block that octets begin with, by its fields
abbrev pub framed : Context → Layout → List ℕ → Result Block CaptureFault
framed known (Records parts) octets = record_in known.order parts octets
framed known Blocks octets = block_in known.order known.interfaces known.last octets

abbrev pub frame_of : Context → List ℕ → Result Block CaptureFault
frame_of known octets = framed known known.layout (take (most_fields known.layout) octets)

-- how many octets close it: the total of a block
abbrev pub closing : Layout → ℕ
closing (Records parts) = 0
closing Blocks = 4

-- how many octets it has
abbrev pub size : Layout → Block → ℕ
size layout block = block.before + (block.kept + (block.behind + closing layout))

-- the order of octets in a block: that of a section is its own
abbrev pub order_in : Order → What → Order
order_in order (what.Section own) = own
order_in order _ = order

-- the octets that close a block tell its total
abbrev pub is_closed : Layout → Order → Block → List ℕ → Bool
is_closed (Records parts) order block end = true
is_closed Blocks order block end =
    number_in (order_in order block.what) end == size Blocks block

-- what a record or a block tells: a packet, if it has one, what is known behind it, and the octets that
-- follow
pub record Step : Type 0 where
  pub packet : Option Seen
  pub known : Context
  pub rest : List ℕ

abbrev pub with_interface : Context → Bool → ℕ → List ℕ → Option ℕ → Result Step CaptureFault
with_interface known is_ethernet snap rest None = Err fault.Block
with_interface known is_ethernet snap rest (Some ticks) = Ok (record {
  packet = None;
  known = record known {
    interfaces = known.interfaces
        ++ record { is_ethernet = is_ethernet; snap = snap; ticks = ticks } ∷ [];
  };
  rest = rest;
})

-- what a whole block does, of which these octets are kept: it ends the interfaces, adds one whose
-- options have their form, has a packet, or is skipped
abbrev pub done : Context → What → List ℕ → List ℕ → Result Step CaptureFault
done known (what.Section order) kept rest =
    Ok (record { packet = None; known = record known { order = order; interfaces = [] }; rest = rest })
done known (what.Interface is_ethernet snap) kept rest =
    with_interface known is_ethernet snap rest (ticks_in known.order kept)
done known (what.Packet head) kept rest = Ok (record {
  packet = Some (record { octets = kept; head = head });
  known = record known { last = head.nanos };
  rest = rest;
})
done known what.Other kept rest = Ok (record { packet = None; known = known; rest = rest })

abbrev pub step_by : Context → List ℕ → Result Block CaptureFault → Result Step CaptureFault
step_by known octets (Err why) = Err why
step_by known octets (Ok block) =
    let all = size known.layout block in
    if nat_lt (length octets) all then Err fault.Cut
    else if not (is_closed known.layout known.order block (part (all - 4) 4 octets)) then Err fault.Block
    else done known block.what (part block.before block.kept octets) (drop all octets)

-- the record or the block that octets begin with, or its first refusal
abbrev pub step : Context → List ℕ → Result Step CaptureFault
step known octets = step_by known octets (frame_of known octets)

-- ---- all of them

pub record Refusal : Type 0 where
  pub at : ℕ
  pub why : CaptureFault

-- the packets that octets have, and the refusal behind them, if there is one
pub record Told : Type 0 where
  pub packets : List Seen
  pub refused : Option Refusal

-- nothing more is there
abbrev pub no_more : Told
no_more = record { packets = []; refused = None }

-- what begins at this octet is refused
abbrev pub refused_at : ℕ → CaptureFault → Told
refused_at at why = record { packets = []; refused = Some (record { at = at; why = why }) }

-- a packet, if there is one, before others
abbrev pub with_first : Option Seen → Told → Told
with_first None later = later
with_first (Some packet) later = record later { packets = packet ∷ later.packets }

-- packets before what is told behind them
abbrev pub with_packets : List Seen → Told → Told
with_packets packets later = record later { packets = packets ++ later.packets }

abbrev pub told_by : (Context → ℕ → List ℕ → Told) → ℕ → ℕ → Result Step CaptureFault → Told
told_by later at count (Err why) = refused_at at why
told_by later at count (Ok s) =
    with_first s.packet (later s.known (at + (count - length s.rest)) s.rest)

-- what octets tell, the first of which is at this place in the file: so many records or blocks of them
abbrev pub told : ℕ → Context → ℕ → List ℕ → Told
told zero known at octets = no_more
told (suc n) known at [] = no_more
told (suc n) known at (octet ∷ octets) =
    told_by (told n) at (length (octet ∷ octets)) (step known (octet ∷ octets))

-- ---- a file

-- what is known of a file behind its head
abbrev pub begun : Head → Context
begun head = record { layout = head.layout; order = head.order; interfaces = []; last = 0 }

-- a file of blocks, before its first section tells the order
abbrev pub blocks_head : Head
blocks_head = record { layout = Blocks; order = Big }

abbrev pub blank : Context
blank = begun blocks_head

abbrev pub records_head : Order → Parts → List ℕ → Result Head CaptureFault
records_head order parts head =
    if nat_lt (length head) 24 then Err fault.Cut
    else if not (link_type order head == ethernet) then Err fault.LinkType
    else Ok (record { layout = Records parts; order = order })

abbrev pub head_by : List ℕ → Option Parts → Option Parts → Result Head CaptureFault
head_by head (Some parts) little = records_head Big parts head
head_by head None (Some parts) = records_head Little parts head
head_by head None None =
    if number_in Big head == section_type then Ok blocks_head else Err fault.Magic

-- what a file is by its first 24 octets, or those that it has: the head of a classic file, or the magic
-- number of a section; or the first refusal
abbrev pub head_in : List ℕ → Result Head CaptureFault
head_in head =
    if nat_lt (length head) 4 then Err fault.Cut
    else head_by head (parts_in Big head) (parts_in Little head)

-- what a file is, and the octets behind its head, which in pcapng is its first section
abbrev pub opened_by : Layout → Context → List ℕ → Result Step CaptureFault
opened_by (Records parts) known file = Ok (record { packet = None; known = known; rest = drop 24 file })
opened_by Blocks known file = step known file

abbrev pub opened_with : List ℕ → Result Head CaptureFault → Result Step CaptureFault
opened_with file (Err why) = Err why
opened_with file (Ok head) = opened_by head.layout (begun head) file

abbrev pub opened : List ℕ → Result Step CaptureFault
opened file = opened_with file (head_in (take 24 file))

-- what a file tells
abbrev pub capture : List ℕ → Told
capture file = told_by (told (length file)) 0 (length file) (opened file)

-- octets begin with one of the five magic numbers
abbrev pub begins_file : List ℕ → Bool
begins_file octets =
    not (nat_lt (length octets) 4) && (is_some (parts_in Big octets) || (is_some (parts_in Little octets)
    || number_in Big octets == section_type))
