-- How the packets of a file are read from a source, one after the other, within a limit.
use Rattle.std.specs.Prelude.{⊤, ◌≡◌, ◌⊎◌, ℕ, ◌-◌, ◌<◌, ◌≤◌, Bool, true, false, List, [], ◌∷◌, ◌++◌, length, take, Option, Some, Result, Ok, Err}
use Rattle.octet_supply.specs.Supplying.{IsTaken, Stands}
use Rattle.capture_packets.specs.declared.block.Block.{Block}
use Rattle.text_lines.specs.declared.reading.End.{End}
use Rattle.text_lines.specs.declared.reading.End.TheVariants.{Limit, Memory, ReadFault, Refused}
use Rattle.capture_packets.specs.declared.fault.CaptureFault.{CaptureFault}
use Rattle.capture_packets.specs.declared.fault.CaptureFault.TheVariants.{Cut}
use Rattle.capture_packets.specs.declared.packet.Packet.{Packet}
use Rattle.capture_packets.specs.declared.reader.PacketReader.{PacketReader}
use Rattle.capture_packets.specs.Packets.{Context, Seen, context, seen}
use Rattle.capture_packets.specs.Captures.{Step, Told, blank, blocks_head, capture, frame_of, head_in, most_fields, no_more, opened, refused_at, size, told, with_first, with_packets}

-- ---- where a reader stands

-- Of a text these octets were given out, and what of it is within the limit goes on with those. The file
-- begins within the first.
pub record IsBefore (limit : ℕ) (text given behind : List ℕ) (reader : PacketReader)
    (left : Option (List ℕ)) : Type 0 where
  pub stands : Stands limit text given reader.supply left
  pub visible : take limit text ≡ given ++ behind
  pub begun : reader.start ≤ length given

-- octets, the first of which is at this place in the file, tell this
abbrev pub IsTold : Context → ℕ → List ℕ → Told → Type 0
IsTold known at octets t = (n : ℕ) × (length octets ≤ n) × (told n known at octets ≡ t)

-- Octets that a file begins with are whole: they have these packets, nothing of them is refused, and of
-- whatever follows them is told what is told where this is known.
pub record HasPackets (front : List ℕ) (packets : List Seen) (known : Context) : Type 0 where
  pub goes : (rest : List ℕ) → (t : Told) × IsTold known (length front) rest t
      × (capture (front ++ rest) ≡ with_packets packets t)

-- what was given out ends with such octets of a file that begins at this octet
pub record HasRead (start : ℕ) (given : List ℕ) (packets : List Seen) (known : Context) : Type 0
  where
    pub before : List ℕ
    pub front : List ℕ
    pub parts : given ≡ before ++ front
    pub starts : length before ≡ start
    pub has : HasPackets front packets known

-- a reader read these packets, and what it goes on with tells this
pub record TellsOn (limit : ℕ) (text : List ℕ) (reader : PacketReader) (left : Option (List ℕ))
    (packets : List Seen) (t : Told) : Type 0 where
  pub given : List ℕ
  pub behind : List ℕ
  pub before : IsBefore limit text given behind reader left
  pub read : HasRead reader.start given packets (context reader.state)
  pub tells : IsTold (context reader.state) (length given - reader.start) behind t

-- ---- how reading ends

-- why a file is not read to its end
abbrev pub FileEnd : Type 0
FileEnd = End (ℕ × CaptureFault)

-- nothing more is there but a front of a record or a block, or nothing
abbrev pub IsUnfinished : Told → Type 0
IsUnfinished t = (t ≡ no_more) ⊎ ((at : ℕ) × (t ≡ refused_at at Cut))

-- octets end within the record or block that a text goes on with, or are fewer than its fields may be
abbrev pub IsWithinNext : Context → List ℕ → List ℕ → Type 0
IsWithinNext known behind more =
    (length more < most_fields known.layout)
    ⊎ ((block : Block) × (frame_of known behind ≡ Ok block) × (length more < size known.layout block))

-- The source failed within the record or block that the text goes on with, behind those that have these
-- packets.
pub record IsFaulted (limit : ℕ) (text : List ℕ) (start : ℕ) (left : Option (List ℕ))
    (packets : List Seen) (t : Told) : Type 0 where
  pub given : List ℕ
  pub behind : List ℕ
  pub visible : take limit text ≡ given ++ behind
  pub known : Context
  pub read : HasRead start given packets known
  pub tells : IsTold known (length given - start) behind t
  pub more : List ℕ
  pub taken : IsTaken limit text (given ++ more) left
  pub within : IsWithinNext known behind more

-- why a text tells no more, which is read within the limit: it is cut where it ends within it
abbrev pub RefusedAt : ℕ → List ℕ → ℕ → CaptureFault → Told → Type 0
RefusedAt limit text at why t = (t ≡ refused_at at why) × (why ≡ Cut → length text ≤ limit)

-- what reading a packet did, where a reader had read these and went on with what tells this
abbrev pub ReadsNext : ℕ → List ℕ → List Seen → Told → Packet → PacketReader → Option (List ℕ)
    → Result Bool FileEnd → Type 0
ReadsNext limit text packets t packet reader left (Ok true) =
    (later : Told) × (t ≡ with_first (Some (seen packet)) later)
    × TellsOn limit text reader left (packets ++ seen packet ∷ []) later
ReadsNext limit text packets t packet reader left (Ok false) =
    (t ≡ no_more) × (length text ≤ limit) × (left ≡ Some [])
ReadsNext limit text packets t packet reader left (Err (Refused (at, why))) =
    RefusedAt limit text at why t
ReadsNext limit text packets t packet reader left (Err Limit) = (limit < length text) × IsUnfinished t
ReadsNext limit text packets t packet reader left (Err ReadFault) =
    IsFaulted limit text reader.start left packets t
ReadsNext limit text packets t packet reader left (Err Memory) = ⊤

-- octets end within the head of a file, or within its first section
abbrev pub IsWithinHead : List ℕ → List ℕ → Type 0
IsWithinHead file more =
    (length more < 24) ⊎ ((head_in (take 24 file) ≡ Ok blocks_head) × IsWithinNext blank file more)

-- What reading the head of a file did, behind what was given out before. The head, or the first section,
-- is whole and in order exactly where a reader is answered.
abbrev pub Opens : ℕ → List ℕ → List ℕ → List ℕ → Option (List ℕ) → Result PacketReader FileEnd
    → Type 0
Opens limit text given file left (Ok reader) =
    (head : Step) × (opened file ≡ Ok head) × (reader.start ≡ length given)
    × TellsOn limit text reader left [] (capture file)
Opens limit text given file left (Err (Refused (at, why))) =
    (at ≡ 0) × (opened file ≡ Err why) × (why ≡ Cut → length text ≤ limit)
Opens limit text given file left (Err Limit) =
    (limit < length text) × (opened file ≡ Err Cut)
Opens limit text given file left (Err ReadFault) =
    (more : List ℕ) × IsTaken limit text (given ++ more) left × IsWithinHead file more
Opens limit text given file left (Err Memory) = ⊤
