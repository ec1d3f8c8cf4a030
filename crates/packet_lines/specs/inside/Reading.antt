-- How a head and a record are read of a text that a source tells.
use Rattle.std.specs.Prelude.{⊤, ◌≡◌, ◌≢◌, ◌<◌, ◌≤◌, ℕ, Bool, true, false, List, [], ◌++◌, length, take, Option, Result, Ok, Err}
use Rattle.lan_base.specs.Told.{after}
use Rattle.capture_file.specs.declared.order.Order.{Order}
use Rattle.capture_file.specs.declared.fault.CaptureFault.{CaptureFault}
use Rattle.capture_file.specs.declared.fault.CaptureFault.TheVariants.{Cut}
use Rattle.capture_file.specs.Describing.{described}
use Rattle.lan_base.specs.Ranges.{most_input}
use Rattle.capture_file.specs.Pcap.{head_read, kept_read}
use Rattle.text_lines.specs.declared.reading.End.{End}
use Rattle.text_lines.specs.declared.reading.End.TheVariants.{Refused, Limit, ReadFault, Memory}
use Rattle.text_lines.specs.declared.unfinished.Unfinished.{Unfinished}
use Rattle.text_lines.specs.declared.unfinished.Unfinished.TheVariants as unfinished
use Rattle.packet_lines.specs.declared.reader.PacketReader.{PacketReader}
use Rattle.packet_lines.specs.Files.{IsHeadCut, IsRecordCut, IsRecordRefused}
use Rattle.packet_lines.specs.Telling.{RefusedBy}
use Rattle.octet_supply.specs.Supplying.{Held, IsAtEnd, IsPast, IsTaken, Stands}

-- why a file is not read to its end
abbrev pub FileEnd : Type 0
FileEnd = End (ℕ × CaptureFault)

-- a head was read from octets, which are one at least
abbrev pub GivesOrder : List ℕ → Result Order FileEnd → Type 0
GivesOrder octets (Ok order) = (24 ≤ length octets) × (head_read (take 24 octets) ≡ Ok order)
GivesOrder octets (Err (Refused (at, Cut))) = (at ≡ 0) × (length octets < 24)
GivesOrder octets (Err (Refused (at, why))) =
    (at ≡ 0) × (24 ≤ length octets) × (head_read (take 24 octets) ≡ Err why)
GivesOrder octets (Err _) = ⊥

-- a header was read from octets
abbrev pub GivesCount : Order → ℕ → List ℕ → Result ℕ FileEnd → Type 0
GivesCount order at octets (Ok kept) =
    (16 ≤ length octets) × (kept_read order (take 16 octets) ≡ Ok kept)
GivesCount order at octets (Err (Refused (where_at, Cut))) = (where_at ≡ at) × (length octets < 16)
GivesCount order at octets (Err (Refused (where_at, why))) =
    (where_at ≡ at) × (16 ≤ length octets) × (kept_read order (take 16 octets) ≡ Err why)
GivesCount order at octets (Err _) = ⊥

-- a reader, seen as its order of octets and its supply
abbrev pub seen : Result PacketReader FileEnd → Result (Order × Held) FileEnd
seen (Ok reader) = Ok (reader.order, reader.supply)
seen (Err end) = Err end

-- a head was given out of a text
pub record IsOpened (text : List ℕ) (order : Order) (h : Held) (left : Option (List ℕ)) : Type 0
  where
    pub head : List ℕ
    pub stands : Stands most_input text head h left
    pub count : length head ≡ 24
    pub read : head_read head ≡ Ok order

-- what reading a head did
abbrev pub Opens : List ℕ → Option (List ℕ) → Result (Order × Held) FileEnd → Type 0
Opens text left (Ok reader) = IsOpened text reader.0 reader.1 left
Opens text left (Err (Refused (at, why))) = RefusedBy why text [] at
Opens text left (Err Limit) = (front : List ℕ) × IsHeadCut front × IsPast most_input text front
Opens text left (Err ReadFault) = (front : List ℕ) × IsHeadCut front × IsTaken most_input text front left
Opens text left (Err Memory) = ⊤

-- a record was given out of a text, behind what was given before
pub record IsReadNext (text given : List ℕ) (order : Order) (packet : List ℕ) (h : Held)
    (left : Option (List ℕ)) : Type 0 where
  pub header : List ℕ
  pub count : length header ≡ 16
  pub kept : kept_read order header ≡ Ok (length packet)
  pub stands : Stands most_input text (given ++ (header ++ packet)) h left

-- what is behind is no record
abbrev pub RefusedNext : CaptureFault → List ℕ → List ℕ → Order → Type 0
RefusedNext Cut text given order = (length text ≤ most_input) × ((behind : List ℕ)
    × (text ≡ given ++ behind) × (behind ≢ []) × IsRecordCut order behind)
RefusedNext why text given order =
    (behind : List ℕ) × (take most_input text ≡ given ++ behind) × IsRecordRefused order behind why

-- what reading a record did
abbrev pub ReadsNext : List ℕ → List ℕ → Order → List ℕ → Held → Option (List ℕ)
    → Result Bool FileEnd → Type 0
ReadsNext text given order packet new left (Ok true) = IsReadNext text given order packet new left
ReadsNext text given order packet new left (Ok false) = IsAtEnd most_input text given left
ReadsNext text given order packet new left (Err (Refused (at, why))) =
    (at ≡ length given) × RefusedNext why text given order
ReadsNext text given order packet new left (Err Limit) =
    (behind : List ℕ) × IsRecordCut order behind × IsPast most_input text (given ++ behind)
ReadsNext text given order packet new left (Err ReadFault) =
    (behind : List ℕ) × IsRecordCut order behind × IsTaken most_input text (given ++ behind) left
ReadsNext text given order packet new left (Err Memory) = ⊤

-- a part of the line of a packet was written, but not all
abbrev pub WritesPart : ℕ → List ℕ → Option (List ℕ) → Option (List ℕ) → Type 0
WritesPart number packet held then = (n : ℕ) × (n < length (described number packet))
    × (then ≡ after held (take n (described number packet)))

-- what writing the line of a packet did
abbrev pub Writes : ℕ → List ℕ → Option (List ℕ) → Option (List ℕ) → Result (Unit {0}) (Unfinished CaptureFault) → Type 0
Writes number packet held then (Ok done) = then ≡ after held (described number packet)
Writes number packet held then (Err unfinished.WriteFault) = WritesPart number packet held then
Writes number packet held then (Err unfinished.Memory) = WritesPart number packet held then
Writes number packet held then (Err _) = ⊥
