-- How a record or a block is taken from a supply of octets.
use Rattle.std.specs.Prelude.{⊤, ◌≡◌, ◌≢◌, ◌⊎◌, ℕ, ◌+◌, ◌<◌, ◌≤◌, Bool, true, false, List, [], ◌++◌, drop, length, take, Option, Some, None, Result, Ok, Err}
use Rattle.lan_base.specs.declared.source.ReadEnd.{ReadEnd}
use Rattle.lan_base.specs.declared.source.ReadEnd.TheVariants as readings
use Rattle.capture_file.specs.declared.order.Order.{Order}
use Rattle.octet_supply.specs.Supplying.{Held, IsTaken, SeesAhead, Stands}
use Rattle.capture_packets.specs.declared.block.Block.{Block}
use Rattle.capture_packets.specs.declared.block.What.{What}
use Rattle.text_lines.specs.declared.reading.End.TheVariants.{Limit, Memory, ReadFault, Refused}
use Rattle.capture_packets.specs.declared.fault.CaptureFault.{CaptureFault}
use Rattle.capture_packets.specs.declared.fault.CaptureFault.TheVariants as fault
use Rattle.capture_packets.specs.declared.head.Head.{Head}
use Rattle.capture_packets.specs.declared.packet.Packet.{Packet}
use Rattle.capture_packets.specs.declared.reader.PacketReader.{PacketReader}
use Rattle.capture_packets.specs.declared.state.Layout.{Layout}
use Rattle.capture_packets.specs.declared.state.Progress.{Progress}
use Rattle.capture_packets.specs.declared.state.Progress.TheVariants as progress
use Rattle.capture_packets.specs.Packets.{Context, Seen, seen}
use Rattle.capture_packets.specs.Numbers.{part}
use Rattle.capture_packets.specs.Options.{ticks_in}
use Rattle.capture_packets.specs.Reading.{FileEnd, IsWithinNext}
use Rattle.capture_packets.specs.Captures.{blank, closing, done, frame_of, head_in, is_closed, most_fields, step, with_interface}

-- ---- looking at the fields

-- what looking at so many octets did: whether the limit cuts those that are held
abbrev pub Looks : ℕ → List ℕ → List ℕ → ℕ → Held → Option (List ℕ) → Result Bool FileEnd → Type 0
Looks limit text given count new left (Ok false) =
    Stands limit text given new left × SeesAhead limit text given count new.octets left (Ok tt)
Looks limit text given count new left (Ok true) =
    Stands limit text given new left
    × SeesAhead limit text given count new.octets left (Err readings.Limit)
Looks limit text given count new left (Err ReadFault) =
    (more : List ℕ) × (length more < count) × IsTaken limit text (given ++ more) left
Looks limit text given count new left (Err Memory) = ⊤
Looks limit text given count new left (Err _) = ⊥

-- the fields of a record or a block, at this octet, where the limit may cut what follows
abbrev pub judged : ℕ → Bool → Result Block CaptureFault → Result (Option Block) FileEnd
judged at past (Ok block) = Ok (Some block)
judged at true (Err fault.Cut) = Err Limit
judged at past (Err why) = Err (Refused (at, why))

-- what looking at the fields of the record or block that a text goes on with gave
abbrev pub Frames : ℕ → List ℕ → List ℕ → List ℕ → Context → ℕ → Held → Option (List ℕ)
    → Result (Option Block) FileEnd → Type 0
Frames limit text given behind known at new left (Ok (Some block)) =
    Stands limit text given new left × (behind ≢ []) × (frame_of known behind ≡ Ok block)
Frames limit text given behind known at new left (Ok None) =
    (behind ≡ []) × (length text ≤ limit) × (left ≡ Some [])
Frames limit text given behind known at new left (Err (Refused (place, why))) =
    (place ≡ at) × (behind ≢ []) × (frame_of known behind ≡ Err why)
    × (why ≡ fault.Cut → length text ≤ limit)
Frames limit text given behind known at new left (Err Limit) =
    (limit < length text) × ((behind ≡ []) ⊎ (frame_of known behind ≡ Err fault.Cut))
Frames limit text given behind known at new left (Err ReadFault) =
    (more : List ℕ) × (length more < most_fields known.layout)
    × IsTaken limit text (given ++ more) left
Frames limit text given behind known at new left (Err Memory) = ⊤

-- ---- taking all of it

-- a text ends behind these octets, and within the limit
pub record EndsWith (limit : ℕ) (text octets : List ℕ) : Type 0 where
  pub all : text ≡ octets
  pub within : length text ≤ limit

-- what taking a record or a block of so many octets did, of which some are kept and some close it
abbrev pub TakesBlock : ℕ → List ℕ → List ℕ → List ℕ → ℕ → Block → List ℕ → Held
    → Option (List ℕ) → Result (Unit {0}) ReadEnd → Type 0
TakesBlock limit text given behind end block into new left (Ok done) =
    let all = block.before + (block.kept + (block.behind + end)) in
    Stands limit text (given ++ take all behind) new left
    × (into ≡ part block.before block.kept behind
    ++ part (block.before + (block.kept + block.behind)) end behind)
    × (length behind < all → EndsWith limit text (given ++ behind))
TakesBlock limit text given behind end block into new left (Err readings.Limit) =
    (length behind < block.before + (block.kept + (block.behind + end))) × (limit < length text)
TakesBlock limit text given behind end block into new left (Err readings.Failed) =
    (more : List ℕ) × (length more < block.before + (block.kept + (block.behind + end)))
    × IsTaken limit text (given ++ more) left
TakesBlock limit text given behind end block into new left (Err readings.Memory) = ⊤

-- what judging the octets that were taken of a block gave: those that are kept
abbrev pub Closes : Layout → Order → Block → List ℕ → List ℕ → Result (Unit {0}) CaptureFault
    → Type 0
Closes layout order block old new (Ok done) =
    (block.kept + closing layout ≤ length old)
    × (is_closed layout order block (drop block.kept old) ≡ true) × (new ≡ take block.kept old)
Closes layout order block old new (Err fault.Cut) = length old < block.kept + closing layout
Closes layout order block old new (Err fault.Block) =
    (block.kept + closing layout ≤ length old)
    × (is_closed layout order block (drop block.kept old) ≡ false)
Closes layout order block old new (Err _) = ⊥

-- the packet of a block, if it has one
abbrev pub packet_in : Progress → Packet → Option Seen
packet_in progress.Packet packet = Some (seen packet)
packet_in progress.Other packet = None
packet_in progress.End packet = None

-- what adding an interface with these options did
abbrev pub Adds : Context → Bool → ℕ → List ℕ → ℕ → Context → Result Progress FileEnd → Type 0
Adds known is_ethernet snap options at now (Ok progress.Other) = (rest : List ℕ)
    → with_interface known is_ethernet snap rest (ticks_in known.order options)
    ≡ Ok (record { packet = None; known = now; rest = rest })
Adds known is_ethernet snap options at now (Err (Refused (place, fault.Block))) = (place ≡ at)
    × ((rest : List ℕ) → with_interface known is_ethernet snap rest (ticks_in known.order options)
    ≡ Err fault.Block)
Adds known is_ethernet snap options at now (Err Memory) = ⊤
Adds known is_ethernet snap options at now _ = ⊥

-- what a whole block did, of which these octets are kept
abbrev pub Finishes : Context → What → List ℕ → ℕ → Packet → Context → Result Progress FileEnd → Type 0
Finishes known what kept at packet now (Ok progress.End) = ⊥
Finishes known what kept at packet now (Ok p) = (rest : List ℕ)
    → done known what kept rest ≡ Ok (record { packet = packet_in p packet; known = now; rest = rest })
Finishes known what kept at packet now (Err (Refused (place, why))) =
    (place ≡ at) × (why ≢ fault.Cut) × ((rest : List ℕ) → done known what kept rest ≡ Err why)
Finishes known what kept at packet now (Err Memory) = ⊤
Finishes known what kept at packet now (Err _) = ⊥

-- ---- a step

-- a step was made: a supply stands behind it
pub record IsStepped (limit : ℕ) (text given behind : List ℕ) (known : Context) (p : Progress)
    (packet : Packet) (now : Context) (new : Held) (left : Option (List ℕ)) : Type 0 where
  pub all : ℕ
  pub some : 8 ≤ all
  pub whole : all ≤ length behind
  pub stands : Stands limit text (given ++ take all behind) new left
  pub step_is : step known behind
      ≡ Ok (record { packet = packet_in p packet; known = now; rest = drop all behind })

-- what reading the record or block did that a text goes on with
abbrev pub StepsOn : ℕ → List ℕ → List ℕ → List ℕ → Context → ℕ → Packet → Context → Held
    → Option (List ℕ) → Result Progress FileEnd → Type 0
StepsOn limit text given behind known at packet now new left (Ok progress.End) =
    (behind ≡ []) × (length text ≤ limit) × (left ≡ Some [])
StepsOn limit text given behind known at packet now new left (Ok p) =
    IsStepped limit text given behind known p packet now new left
StepsOn limit text given behind known at packet now new left (Err (Refused (place, why))) =
    (place ≡ at) × (behind ≢ []) × (step known behind ≡ Err why)
    × (why ≡ fault.Cut → length text ≤ limit)
StepsOn limit text given behind known at packet now new left (Err Limit) =
    (limit < length text) × ((behind ≡ []) ⊎ (step known behind ≡ Err fault.Cut))
StepsOn limit text given behind known at packet now new left (Err ReadFault) =
    (more : List ℕ) × IsTaken limit text (given ++ more) left × IsWithinNext known behind more
StepsOn limit text given behind known at packet now new left (Err Memory) = ⊤

-- ---- the head

-- what a file is, where the limit may cut what follows
abbrev pub judged_head : Bool → Result Head CaptureFault → Result Head FileEnd
judged_head past (Ok head) = Ok head
judged_head true (Err fault.Cut) = Err Limit
judged_head past (Err why) = Err (Refused (0, why))

-- what reading the head of a file did
abbrev pub ReadsHead : ℕ → List ℕ → List ℕ → List ℕ → Held → Option (List ℕ) → Result Head FileEnd
    → Type 0
ReadsHead limit text given file new left (Ok head) =
    Stands limit text given new left × (head_in (take 24 file) ≡ Ok head)
ReadsHead limit text given file new left (Err (Refused (place, why))) =
    (place ≡ 0) × (head_in (take 24 file) ≡ Err why) × (why ≡ fault.Cut → length text ≤ limit)
ReadsHead limit text given file new left (Err Limit) =
    (limit < length text) × (head_in (take 24 file) ≡ Err fault.Cut)
ReadsHead limit text given file new left (Err ReadFault) =
    (more : List ℕ) × (length more < 24) × IsTaken limit text (given ++ more) left
ReadsHead limit text given file new left (Err Memory) = ⊤

-- what passing over the head of a classic file did
abbrev pub BeginsRecords : ℕ → List ℕ → List ℕ → List ℕ → Held → Option (List ℕ)
    → Result (Unit {0}) FileEnd → Type 0
BeginsRecords limit text given file new left (Ok done) =
    Stands limit text (given ++ take 24 file) new left
BeginsRecords limit text given file new left (Err ReadFault) =
    (more : List ℕ) × (length more < 24) × IsTaken limit text (given ++ more) left
BeginsRecords limit text given file new left (Err Memory) = ⊤
BeginsRecords limit text given file new left (Err _) = ⊥

-- what reading the first section did
abbrev pub BeginsBlocks : ℕ → List ℕ → List ℕ → List ℕ → Context → Held → Option (List ℕ)
    → Result (Unit {0}) FileEnd → Type 0
BeginsBlocks limit text given file now new left (Ok done) =
    (all : ℕ) × (8 ≤ all) × (all ≤ length file) × Stands limit text (given ++ take all file) new left
    × (step blank file ≡ Ok (record { packet = None; known = now; rest = drop all file }))
BeginsBlocks limit text given file now new left (Err (Refused (place, why))) =
    (place ≡ 0) × (step blank file ≡ Err why) × (why ≡ fault.Cut → length text ≤ limit)
BeginsBlocks limit text given file now new left (Err Limit) =
    (limit < length text) × (step blank file ≡ Err fault.Cut)
BeginsBlocks limit text given file now new left (Err ReadFault) =
    (more : List ℕ) × IsTaken limit text (given ++ more) left × IsWithinNext blank file more
BeginsBlocks limit text given file now new left (Err Memory) = ⊤

-- the first block is a section, and has no packet
abbrev pub no_packet : Progress → Result (Unit {0}) FileEnd
no_packet progress.Other = Ok tt
no_packet progress.Packet = Err (Refused (0, fault.Magic))
no_packet progress.End = Err (Refused (0, fault.Magic))

-- a reader that has begun
abbrev pub begun_by : PacketReader → Result (Unit {0}) FileEnd → Result PacketReader FileEnd
begun_by reader (Ok done) = Ok reader
begun_by reader (Err end) = Err end
