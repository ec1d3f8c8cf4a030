-- How packets are read and settled one after the other, and how an audit ends behind them.
use Rattle.std.specs.Prelude.{⊤, ◌≡◌, ℕ, ◌+◌, ◌≤◌, Bool, true, false, List, [], ◌++◌, length, take, All, Option, Some, None, Result, Ok, Err}
use Rattle.audit_report.specs.declared.ending.Ending.{Ending}
use Rattle.audit_report.specs.declared.ending.Ending.TheVariants as endings
use Rattle.lan_base.specs.Ranges.{most_input}
use Rattle.capture_packets.specs.Captures.{Step, Told, capture, opened, with_packets}
use Rattle.capture_packets.specs.Packets.{Seen}
use Rattle.capture_packets.specs.Reading.{TellsOn}
use Rattle.capture_packets.specs.Reading.{FileEnd}
use Rattle.text_lines.specs.declared.reading.End.TheVariants as reads
use Rattle.capture_packets.specs.declared.reader.PacketReader.{PacketReader}
use Rattle.key_ring.specs.Reading.{file_in}
use Rattle.key_ring.specs.Rings.{Ring, ring_in}
use Rattle.key_ring.specs.Reading.{RingEnd}
use Rattle.lan_base.specs.Told.{after}
use Rattle.capture_audit.specs.declared.auditor.Auditor.{Auditor}
use Rattle.capture_audit.specs.declared.batch.Batch.{Batch}
use Rattle.capture_audit.specs.declared.end.AuditEnd.{AuditEnd}
use Rattle.capture_audit.specs.declared.end.AuditEnd.TheVariants as ends
use Rattle.capture_audit.specs.declared.asks.Asks.{Asks}
use Rattle.capture_audit.specs.Before.{IsUnwrapped, Unwrapped}
use Rattle.capture_audit.specs.Reading.{AreFirst, EndsBehind, IsHeadFailed, IsHeadPast, IsHeadRefused, in_order}
use Rattle.capture_audit.specs.Telling.{told_lines}
use Rattle.capture_audit.specs.inside.Batches.{IsReady, StandsAt}
use Rattle.capture_audit.specs.inside.Keeping.{IsSound, Keeps}

-- ---- the ends of what is called

abbrev pub end_of_ring : RingEnd → AuditEnd
end_of_ring (reads.Refused (line, why)) = ends.KeyLine line why
end_of_ring reads.Limit = ends.InputLimit
end_of_ring reads.ReadFault = ends.ReadFault
end_of_ring reads.Memory = ends.Memory

abbrev pub end_of_head : FileEnd → AuditEnd
end_of_head (reads.Refused (at, why)) = ends.Refused at why
end_of_head reads.Limit = ends.InputLimit
end_of_head reads.ReadFault = ends.ReadFault
end_of_head reads.Memory = ends.Memory

-- how reading ended, where no packet was read
abbrev pub ending_of : Result Bool FileEnd → Result (Option Ending) AuditEnd
ending_of (Ok true) = Ok None
ending_of (Ok false) = Ok (Some endings.Whole)
ending_of (Err (reads.Refused (at, why))) = Ok (Some (endings.Octet at why))
ending_of (Err reads.Limit) = Ok (Some endings.InputLimit)
ending_of (Err reads.ReadFault) = Ok (Some endings.Fault)
ending_of (Err reads.Memory) = Err ends.Memory

-- and where one was taken
abbrev pub limit_of : Result (Unit {0}) AuditEnd → Result (Option Ending) AuditEnd
limit_of (Ok done) = Ok None
limit_of (Err ends.KeyLimit) = Ok (Some endings.KeyLimit)
limit_of (Err end) = Err end

-- ---- reading

-- these packets of the capture in a text were read, and a reader goes on behind them
pub record IsReading (text : List ℕ) (reader : PacketReader) (left : Option (List ℕ)) (packets : List Seen)
    : Type 0 where
  pub given : List ℕ
  pub visible : take most_input text ≡ given ++ file_in text
  pub start : reader.start ≡ length given
  pub later : Told
  pub tells : TellsOn most_input text reader left packets later
  pub all : capture (file_in text) ≡ with_packets packets later

-- the key text of a text says this, and the head of the capture is read
pub record IsHeadRead (text : List ℕ) (ring : Ring) : Type 0 where
  pub said : ring_in text ≡ Ok ring
  pub head : Step
  pub opens : opened (file_in text) ≡ Ok head

-- what opening the capture in a text did
abbrev pub OpensFile : List ℕ → Option (List ℕ) → Result PacketReader AuditEnd → Type 0
OpensFile text left (Ok reader) =
    ((head : Step) × (opened (file_in text) ≡ Ok head)) × IsReading text reader left []
OpensFile text left (Err (ends.Refused at why)) = IsHeadRefused text at why
OpensFile text left (Err ends.InputLimit) = IsHeadPast text
OpensFile text left (Err ends.ReadFault) = IsHeadFailed text left
OpensFile text left (Err ends.Memory) = ⊤
OpensFile text left (Err _) = ⊥

-- a packet more can be read and settled: each of those that were took an octet
pub record CanRead (reader : PacketReader) (a : Auditor) (b : Batch) : Type 0 where
  pub sound : IsSound a
  pub ready : IsReady a.groups b
  pub room : a.tally.all + length b.waiting.items ≤ reader.supply.given

-- Where an audit stands that reads what a source told, if it told it: these packets were read, and all
-- settled but for those that wait; and these octets were written.
pub record IsAuditing (asks : Asks) (ring : Ring) (told held : Option (List ℕ)) (reader : PacketReader)
    (left then : Option (List ℕ)) (a : Auditor) (b : Batch) : Type 0 where
  pub before : List Unwrapped
  pub waiting : List Seen
  pub written : List ℕ
  pub written_is : then ≡ after held written
  pub stands : StandsAt asks ring before waiting written a b
  pub reading : (text : List ℕ) → told ≡ Some text → IsReading text reader left (in_order before ++ waiting)

-- reading ended so behind these packets, which are settled, and of whose lines some were written
pub record HasRead (asks : Asks) (ring : Ring) (told held : Option (List ℕ)) (ending : Ending)
    (left then : Option (List ℕ)) (a : Auditor) (b : Batch) : Type 0 where
  pub packets : List Unwrapped
  pub written : List ℕ
  pub written_is : then ≡ after held written
  pub keeps : Keeps ring packets a
  pub lines : written ++ b.text.items ≡ told_lines asks ring packets
  pub ends : (text : List ℕ) → told ≡ Some text
      → AreFirst text packets × EndsBehind ending text left ring packets

-- a part of the lines of packets that were read was written
pub record IsPartTold (asks : Asks) (ring : Ring) (told held then : Option (List ℕ)) : Type 0 where
  pub packets : List Unwrapped
  pub unwrapped : All (IsUnwrapped ring) packets
  pub first : (text : List ℕ) → told ≡ Some text → AreFirst text packets
  pub more : List ℕ
  pub rest : List ℕ
  pub lines : more ++ rest ≡ told_lines asks ring packets
  pub written_is : then ≡ after held more

-- what reading a packet did: it was taken, or reading ended
abbrev pub ReadsOne : Asks → Ring → Option (List ℕ) → Option (List ℕ) → PacketReader
    → Option (List ℕ) → Option (List ℕ) → Auditor → Batch → Result (Option Ending) AuditEnd → Type 0
ReadsOne asks ring told held reader left then a b (Ok None) =
    IsAuditing asks ring told held reader left then a b
ReadsOne asks ring told held reader left then a b (Ok (Some ending)) =
    HasRead asks ring told held ending left then a b
ReadsOne asks ring told held reader left then a b (Err ends.WriteFault) =
    IsPartTold asks ring told held then
ReadsOne asks ring told held reader left then a b (Err ends.Memory) =
    IsPartTold asks ring told held then
ReadsOne asks ring told held reader left then a b (Err _) = ⊥

-- what reading all packets did
abbrev pub ReadsUp : Asks → Ring → Option (List ℕ) → Option (List ℕ) → Option (List ℕ)
    → Option (List ℕ) → Auditor → Batch → Result Ending AuditEnd → Type 0
ReadsUp asks ring told held left then a b (Ok ending) =
    HasRead asks ring told held ending left then a b
ReadsUp asks ring told held left then a b (Err ends.WriteFault) = IsPartTold asks ring told held then
ReadsUp asks ring told held left then a b (Err ends.Memory) = IsPartTold asks ring told held then
ReadsUp asks ring told held left then a b (Err _) = ⊥
