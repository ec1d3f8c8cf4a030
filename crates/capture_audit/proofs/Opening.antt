-- A capture is opened behind its key text, and audited.
use Rattle.std.proofs.Common.{◌≡◌, ◌∙◌, ◌≤◌, inl, inr, ℕ, Bool, List, [], ◌++◌, Option, Some, None, Result, Ok, Err, refl, sym, ap, subst, arith}
use Rattle.std.specs.Prelude.{take}
use Rattle.std.proofs.lemmas.List.{append-nil}
use Rattle.audit_report.specs.Lines.{set_lines}
use Rattle.lan_base.specs.Ranges.{most_input}
use Rattle.capture_packets.specs.Reading.{Opens}
use Rattle.capture_packets.specs.Reading.{FileEnd}
use Rattle.text_lines.specs.declared.reading.End.TheVariants as reads
use Rattle.capture_packets.specs.declared.reader.PacketReader.{PacketReader}
use Rattle.key_ring.specs.Reading.{ReadsRing, file_in}
use Rattle.key_ring.specs.Rings.{Ring, ring_in}
use Rattle.key_ring.specs.Reading.{RingEnd}
use Rattle.lan_base.specs.Faults.{Rose}
use Rattle.octet_supply.specs.Supplying.{Held, Stands}
use Rattle.capture_audit.specs.declared.asks.Asks.{Asks}
use Rattle.capture_audit.specs.declared.auditor.Auditor.{Auditor}
use Rattle.capture_audit.specs.declared.batch.Batch.{Batch}
use Rattle.capture_audit.specs.declared.end.AuditEnd.{AuditEnd}
use Rattle.capture_audit.specs.declared.end.AuditEnd.TheVariants as ends
use Rattle.capture_audit.specs.Ends.{EndsAudit}
use Rattle.capture_audit.specs.Telling.{numbered_hand, told_lines}
use Rattle.capture_audit.specs.inside.Auditing.{IsAuditing, IsHeadRead, IsReading, OpensFile, end_of_head, end_of_ring}
use Rattle.capture_audit.specs.inside.Batches.{StandsAt}
use Rattle.capture_audit.specs.inside.Keeping.{EndsOf}
use Rattle.capture_audit.proofs.HeadsRead.{head-failed, head-past, head-refused, ring-failed, ring-past}
use Rattle.capture_audit.proofs.PacketsRead.{reading-begins}
use Rattle.capture_audit.proofs.Standing.{after-none}

-- ---- the key text

pub ring-said : (text : List ℕ) (left : Option (List ℕ)) (ring : Ring) (supply : Option Held)
    → ReadsRing text left (Ok (ring, supply)) → ring_in text ≡ Ok ring
ring-said text left ring None is = is.0
ring-said text left ring (Some supply) is = is.0

pub ring-ends : (asks : Asks) (text : List ℕ) (left held : Option (List ℕ)) (failed : Type 0) (end : RingEnd)
    → ReadsRing text left (Err end) → EndsAudit asks text left failed held held (Err (end_of_ring end))
ring-ends asks text left held failed (reads.Refused (line, why)) is = (is, refl)
ring-ends asks text left held failed reads.Limit is = inl (ring-past text left is, refl)
ring-ends asks text left held failed reads.ReadFault is = inl (ring-failed text left is, refl)
ring-ends asks text left held failed reads.Memory is = inl refl

-- the keys that are set by hand are too many, or there is no memory
pub set-ends : (X : Type 0) (asks : Asks) (text : List ℕ) (left left_then held : Option (List ℕ)) (failed : Type 0) (ring : Ring)
    (supply : Option Held) (end : AuditEnd) → ReadsRing text left (Ok (ring, supply)) → EndsOf {X = X} ring (Err end)
    → EndsAudit asks text left_then failed held held (Err end)
set-ends X asks text left left_then held failed ring supply ends.KeyLimit is many =
    inl (record { ring = ring; said = ring-said text left ring supply is; many = many }, refl)
set-ends X asks text left left_then held failed ring supply ends.Memory is many = inl refl
set-ends X asks text left left_then held failed ring supply _ is many = absurd many

pub not-set-so : (X : Type 0) (ring : Ring) (end : AuditEnd) → EndsOf {X = X} ring (Err end)
    → (end ≡ ends.ReadFault → ⊥) × (end ≡ ends.WriteFault → ⊥)
not-set-so X ring ends.KeyLimit is = (λ e. cc e, λ e. cc e)
not-set-so X ring ends.Memory is = (λ e. cc e, λ e. cc e)
not-set-so X ring _ is = absurd is

-- ---- the head

pub opens-end : (text given : List ℕ) (left : Option (List ℕ)) (end : FileEnd) → take most_input text ≡ given ++ file_in text
    → Opens most_input text given (file_in text) left (Err end) → OpensFile text left (Err (end_of_head end))
opens-end text given left (reads.Refused (at, why)) visible is = head-refused text given left at why is
opens-end text given left reads.Limit visible is = head-past text given left is
opens-end text given left reads.ReadFault visible is = head-failed text given left visible is
opens-end text given left reads.Memory visible is = tt

pub opens-on : (text given : List ℕ) (reader : PacketReader) (left : Option (List ℕ)) → take most_input text ≡ given ++ file_in text
    → Opens most_input text given (file_in text) left (Ok reader) → OpensFile text left (Ok reader)
opens-on text given reader left visible is = ((is.0, is.1), reading-begins text given reader left visible is)

-- behind the key text
pub open-err : (text : List ℕ) (left left_then : Option (List ℕ)) (ring : Ring) (supply : Held) (end : FileEnd)
    → ReadsRing text left (Ok (ring, Some supply))
    → ((given : List ℕ) → Stands most_input text given supply left → take most_input text ≡ given ++ file_in text
    → Opens most_input text given (file_in text) left_then (Err end))
    → OpensFile text left_then (Err (end_of_head end))
open-err text left left_then ring supply end (said, (given, stands, visible)) opens =
    opens-end text given left_then end visible (opens given stands visible)

pub open-ok : (text : List ℕ) (left left_then : Option (List ℕ)) (ring : Ring) (supply : Held) (reader : PacketReader)
    → ReadsRing text left (Ok (ring, Some supply))
    → ((given : List ℕ) → Stands most_input text given supply left → take most_input text ≡ given ++ file_in text
    → Opens most_input text given (file_in text) left_then (Ok reader))
    → OpensFile text left_then (Ok reader)
open-ok text left left_then ring supply reader (said, (given, stands, visible)) opens =
    opens-on text given reader left_then visible (opens given stands visible)

pub open-ends : (asks : Asks) (text : List ℕ) (left held : Option (List ℕ)) (failed : Type 0) (end : AuditEnd)
    → OpensFile text left (Err end) → EndsAudit asks text left failed held held (Err end)
open-ends asks text left held failed (ends.Refused at why) is = inl (is, refl)
open-ends asks text left held failed ends.InputLimit is = inl (is, refl)
open-ends asks text left held failed ends.ReadFault is = inl (is, refl)
open-ends asks text left held failed ends.Memory is = inl refl
open-ends asks text left held failed _ is = absurd is

-- ---- before the packets

pub set-told : (asks : Asks) (ring : Ring) (lines none : List ℕ) → none ≡ []
    → lines ≡ none ++ set_lines asks.keys (numbered_hand ring) → lines ≡ told_lines asks ring []
set-told asks ring lines none empty is =
    is ∙ ap (λ (xs : List ℕ). xs ++ set_lines asks.keys (numbered_hand ring)) empty ∙ sym (append-nil (set_lines asks.keys (numbered_hand ring)))

pub begins : (asks : Asks) (ring : Ring) (told : Option (List ℕ)) (reader : PacketReader) (left held : Option (List ℕ))
    (a : Auditor) (b : Batch) → StandsAt asks ring [] [] [] a b
    → ((text : List ℕ) → told ≡ Some text → IsReading text reader left [])
    → IsAuditing asks ring told held reader left held a b
begins asks ring told reader left held a b stands reading = record {
  before = [];
  waiting = [];
  written = [];
  written_is = after-none held;
  stands = stands;
  reading = reading;
}

pub text-read : (text : List ℕ) (reader : PacketReader) (left : Option (List ℕ)) → IsReading text reader left []
    → (other : List ℕ) → Some text ≡ Some other → IsReading other reader left []
text-read text reader left is other same = subst (λ (t : List ℕ). IsReading t reader left []) (cc same) is

pub none-told : (reader : PacketReader) (left : Option (List ℕ)) (text : List ℕ) → None ≡ Some text → IsReading text reader left []
none-told reader left text is = absurd (cc is)

-- it rose from what it was earlier
pub rose-earlier : (a b c : ℕ) → a ≤ b → Rose b c → Rose a c
rose-earlier a b c less (inl rose) = inl (omega (arith, less, rose))
rose-earlier a b c less (inr end) = inr end

-- a source that failed has failed since it stood earlier
pub failed-earlier : (asks : Asks) (text : List ℕ) (left held then : Option (List ℕ)) (failed earlier : Type 0)
    (result : Result (Unit {0}) AuditEnd) → (failed → earlier) → EndsAudit asks text left failed held then result
    → EndsAudit asks text left earlier held then result
failed-earlier asks text left held then failed earlier (Ok done) so is = is
failed-earlier asks text left held then failed earlier (Err (ends.Refuted breach)) so is = (is.0, λ e. so (is.1 e), is.2)
failed-earlier asks text left held then failed earlier (Err (ends.Doubted wrong undecided)) so is = (is.0, λ e. so (is.1 e), is.2)
failed-earlier asks text left held then failed earlier (Err ends.NotJudged) so is = (is.0, λ e. so (is.1 e), is.2)
failed-earlier asks text left held then failed earlier (Err (ends.KeyLine line why)) so is = is
failed-earlier asks text left held then failed earlier (Err (ends.Refused at why)) so is = is
failed-earlier asks text left held then failed earlier (Err ends.InputLimit) so is = is
failed-earlier asks text left held then failed earlier (Err ends.KeyLimit) so is = is
failed-earlier asks text left held then failed earlier (Err ends.ReadFault) so is = is
failed-earlier asks text left held then failed earlier (Err ends.WriteFault) so is = is
failed-earlier asks text left held then failed earlier (Err ends.Memory) so is = is

pub head-read : (text : List ℕ) (left left_then : Option (List ℕ)) (ring : Ring) (supply : Option Held) (reader : PacketReader)
    → ReadsRing text left (Ok (ring, supply)) → OpensFile text left_then (Ok reader) → IsHeadRead text ring
head-read text left left_then ring supply reader is opens = record {
  said = ring-said text left ring supply is;
  head = opens.0.0;
  opens = opens.0.1;
}
