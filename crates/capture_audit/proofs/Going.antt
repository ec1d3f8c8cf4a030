-- A packet is read, or reading ends.
use Rattle.std.proofs.Common.{◌≡◌, ◌∙◌, ◌<◌, ◌≤◌, ◌⊎◌, length, ℕ, Bool, true, false, List, [], ◌∷◌, ◌++◌, Option, Some, None, Result, Ok, Err, refl, sym, ap, subst, append_assoc}
use Rattle.audit_report.specs.declared.ending.Ending.{Ending}
use Rattle.lan_base.specs.Ranges.{most_input}
use Rattle.capture_packets.specs.Captures.{Told, capture}
use Rattle.capture_packets.specs.Packets.{Seen, seen}
use Rattle.capture_packets.specs.Reading.{ReadsNext, TellsOn}
use Rattle.capture_packets.specs.Reading.{FileEnd}
use Rattle.capture_packets.specs.declared.fault.CaptureFault.TheVariants.{Cut}
use Rattle.text_lines.specs.declared.reading.End.TheVariants as reads
use Rattle.capture_packets.specs.declared.packet.Packet.{Packet}
use Rattle.capture_packets.specs.declared.reader.PacketReader.{PacketReader}
use Rattle.key_ring.specs.Reading.{file_in}
use Rattle.key_ring.specs.Rings.{Ring}
use Rattle.lan_base.specs.Told.{after}
use Rattle.capture_audit.specs.declared.asks.Asks.{Asks}
use Rattle.capture_audit.specs.declared.auditor.Auditor.{Auditor}
use Rattle.capture_audit.specs.declared.batch.Batch.{Batch}
use Rattle.capture_audit.specs.declared.end.AuditEnd.{AuditEnd}
use Rattle.capture_audit.specs.declared.end.AuditEnd.TheVariants as ends
use Rattle.capture_audit.specs.Before.{Unwrapped}
use Rattle.capture_audit.specs.Reading.{AreFirst, EndsBehind, HasAll, IsFailedBehind, IsRefusedBehind, in_order}
use Rattle.capture_audit.specs.inside.Auditing.{HasRead, IsAuditing, IsPartTold, IsReading, ReadsOne, ReadsUp, ending_of, limit_of}
use Rattle.capture_audit.specs.inside.Batches.{IsPartWritten, IsSettledUp, SettlesUp, Takes}
use Rattle.capture_audit.proofs.PacketsRead.{reading-failed, reading-front, reading-goes, reading-past, reading-refused, reading-whole}

-- what is written after is written, behind what was before
pub after-both : (held : Option (List ℕ)) (one two : List ℕ) → after (after held one) two ≡ after held (one ++ two)
after-both None one two = refl
after-both (Some xs) one two = ap (λ (ys : List ℕ). Some ys) (append_assoc xs one two)

-- ---- what reading a packet tells

-- whatever is read behind these packets, a reader stands so
abbrev pub Reads : PacketReader → PacketReader → Option (List ℕ) → Option (List ℕ) → Packet → Result Bool FileEnd → Type 0
Reads reader new left left_then packet r =
    (new.start ≡ reader.start)
    × ((text : List ℕ) (packets : List Seen) (t : Told) → TellsOn most_input text reader left packets t
    → ReadsNext most_input text packets t packet new left_then r)

is-read : (r : Result Bool FileEnd) → ending_of r ≡ Ok None → r ≡ Ok true
is-read (Ok true) is = refl
is-read (Ok false) is = absurd (cc is)
is-read (Err (reads.Refused (at, why))) is = absurd (cc is)
is-read (Err reads.Limit) is = absurd (cc is)
is-read (Err reads.ReadFault) is = absurd (cc is)
is-read (Err reads.Memory) is = absurd (cc is)

only-memory : (r : Result Bool FileEnd) (end : AuditEnd) → ending_of r ≡ Err end → end ≡ ends.Memory
only-memory (Ok true) end is = absurd (cc is)
only-memory (Ok false) end is = absurd (cc is)
only-memory (Err (reads.Refused (at, why))) end is = absurd (cc is)
only-memory (Err reads.Limit) end is = absurd (cc is)
only-memory (Err reads.ReadFault) end is = absurd (cc is)
only-memory (Err reads.Memory) end is = cc (sym is)

-- how reading ended, behind these packets
abbrev SoEnds : Result (Option Ending) AuditEnd → List ℕ → Option (List ℕ) → Ring → List Unwrapped → Type 0
SoEnds (Ok (Some ending)) text left ring now = EndsBehind ending text left ring now
SoEnds _ text left ring now = Unit {0}

module _ (text : List ℕ) (reader new : PacketReader) (left left_then : Option (List ℕ)) (packets : List Seen)
    (packet : Packet) (ring : Ring) (now : List Unwrapped) (on : IsReading text reader left packets)
    (all : packets ≡ in_order now) where
  so-ends : (r : Result Bool FileEnd) → new.start ≡ reader.start
      → ReadsNext most_input text packets on.later packet new left_then r
      → SoEnds (ending_of r) text left_then ring now
  so-ends (Ok true) same is = tt
  so-ends (Ok false) same is =
      subst (λ (ps : List Seen). (length text ≤ most_input) × (left_then ≡ Some []) × HasAll (file_in text) ps) all
      (reading-whole text reader new left left_then packets packet on is)
  so-ends (Err (reads.Refused (at, why))) same is =
      subst (λ (ps : List Seen). IsRefusedBehind (file_in text) ps at why × (why ≡ Cut → length text ≤ most_input)) all
      (reading-refused text reader new left left_then packets packet at why on is)
  so-ends (Err reads.Limit) same is =
      subst (λ (ps : List Seen). (most_input < length text) × (HasAll (file_in text) ps
      ⊎ ((at : ℕ) × IsRefusedBehind (file_in text) ps at Cut))) all
      (reading-past text reader new left left_then packets packet on is)
  so-ends (Err reads.ReadFault) same is =
      subst (λ (ps : List Seen). IsFailedBehind text left_then ps) all
      (reading-failed text reader new left left_then packets packet on same is)
  so-ends (Err reads.Memory) same is = tt

-- ---- a packet is read, and taken

module _ (asks : Asks) (ring : Ring) (told held : Option (List ℕ)) (reader new : PacketReader)
    (left left_then now then : Option (List ℕ)) (a : Auditor) (b : Batch)
    (at : IsAuditing asks ring told held reader left now a b) where
  pub are-first : (text : List ℕ) → told ≡ Some text → AreFirst text at.before
  are-first text e =
      let front = reading-front text reader left (in_order at.before ++ at.waiting) (at.reading text e) in
      (at.waiting ++ front.0, front.1 ∙ append_assoc (in_order at.before) at.waiting front.0)

  -- nothing more is written
  pub nothing-more : IsPartTold asks ring told held now
  nothing-more = record {
    packets = at.before;
    unwrapped = at.stands.keeps.unwrapped;
    first = are-first;
    more = at.written;
    rest = b.text.items;
    lines = at.stands.lines;
    written_is = at.written_is;
  }

  -- these are written behind what was
  behind : (more : List ℕ) → then ≡ after now more → then ≡ after held (at.written ++ more)
  behind more is =
      is ∙ ap (λ (o : Option (List ℕ)). after o more) at.written_is ∙ after-both held at.written more

  -- a part of the lines of packets, of which these are the first
  part-told : (packets : List Seen) → IsPartWritten asks ring at.before packets at.written now then
      → ((text : List ℕ) → told ≡ Some text
      → (later : List Seen) × ((capture (file_in text)).packets ≡ (in_order at.before ++ packets) ++ later))
      → IsPartTold asks ring told held then
  part-told packets part first = record {
    packets = part.now;
    unwrapped = part.unwrapped;
    first = λ text e.
        let front = first text e in (
          part.later ++ front.0,
          front.1 ∙ ap (λ (ps : List Seen). ps ++ front.0) (sym part.all) ∙ append_assoc (in_order part.now) part.later front.0,
        );
    more = at.written ++ part.more;
    rest = part.rest;
    lines = part.lines;
    written_is = behind part.more part.written_is;
  }

  -- one is read behind those that wait
  one-more : (packet : Packet) (text : List ℕ) → told ≡ Some text → Reads reader new left left_then packet (Ok true)
      → IsReading text new left_then (in_order at.before ++ (at.waiting ++ seen packet ∷ []))
  one-more packet text e is =
      let on = at.reading text e in
      let packets = in_order at.before ++ at.waiting in
      subst (λ (ps : List Seen). IsReading text new left_then ps) (append_assoc (in_order at.before) at.waiting (seen packet ∷ []))
      (reading-goes text reader new left left_then packets packet on is.0 (is.1 text packets on.later on.tells))

  taken : (packet : Packet) (a_then : Auditor) (b_then : Batch) (r : Result (Unit {0}) AuditEnd)
      → Reads reader new left left_then packet (Ok true)
      → Takes asks ring at.before at.waiting (seen packet) at.written now then a_then b_then r
      → ReadsOne asks ring told held new left_then then a_then b_then (limit_of r)
  taken packet a_then b_then (Ok done) is it = record {
    before = it.now;
    waiting = it.waiting;
    written = at.written ++ it.more;
    written_is = behind it.more it.written_is;
    stands = it.stands;
    reading = λ text e. subst (λ (ps : List Seen). IsReading text new left_then ps) (sym it.all) (one-more packet text e is);
  }
  taken packet a_then b_then (Err ends.KeyLimit) is it = record {
    packets = it.now;
    written = at.written ++ it.more;
    written_is = behind it.more it.written_is;
    keeps = it.keeps;
    lines = it.lines;
    ends = λ text e.
        let front = reading-front text new left_then (in_order at.before ++ (at.waiting ++ seen packet ∷ [])) (one-more packet text e is) in
        let all : (capture (file_in text)).packets ≡ in_order it.now ++ seen packet ∷ front.0 =
        front.1
        ∙ ap (λ (ps : List Seen). ps ++ front.0) (sym (append_assoc (in_order at.before) at.waiting (seen packet ∷ []))
        ∙ ap (λ (ps : List Seen). ps ++ seen packet ∷ []) (sym it.all))
        ∙ append_assoc (in_order it.now) (seen packet ∷ []) front.0 in (
          (seen packet ∷ front.0, all),
          record {
            next = record { packet = seen packet; gift = it.full.gift };
            later = front.0;
            all = all;
            unwrapped = it.full.unwrapped;
            many = it.full.many;
          },
        );
  }
  taken packet a_then b_then (Err ends.WriteFault) is it =
      part-told (at.waiting ++ seen packet ∷ []) it (λ text e. reading-front text new left_then _ (one-more packet text e is))
  taken packet a_then b_then (Err ends.Memory) is it =
      part-told (at.waiting ++ seen packet ∷ []) it (λ text e. reading-front text new left_then _ (one-more packet text e is))
  taken packet a_then b_then (Err _) is it = absurd it

  pub take-one : (packet : Packet) (a_then : Auditor) (b_then : Batch) (r : Result Bool FileEnd) (t : Result (Unit {0}) AuditEnd)
      → Reads reader new left left_then packet r → ending_of r ≡ Ok None
      → Takes asks ring at.before at.waiting (seen packet) at.written now then a_then b_then t
      → ReadsOne asks ring told held new left_then then a_then b_then (limit_of t)
  take-one packet a_then b_then r t is none it =
      taken packet a_then b_then t
      (subst (λ (r : Result Bool FileEnd). Reads reader new left left_then packet r) (is-read r none) is) it

  -- ---- none is read, and those that wait are settled

  pub settle-all : (packet : Packet) (a_then : Auditor) (b_then : Batch) (r : Result Bool FileEnd) (ending : Ending)
      → Reads reader new left left_then packet r → ending_of r ≡ Ok (Some ending)
      → IsSettledUp asks ring at.before at.waiting at.written now then a_then b_then
      → HasRead asks ring told held ending left_then then a_then b_then
  settle-all packet a_then b_then r ending is none it = record {
    packets = it.now;
    written = at.written ++ it.more;
    written_is = behind it.more it.written_is;
    keeps = it.stands.keeps;
    lines = it.stands.lines;
    ends = λ text e.
        let on = at.reading text e in
        let packets = in_order at.before ++ at.waiting in
        let front = reading-front text reader left packets on in (
          (front.0, front.1 ∙ ap (λ (ps : List Seen). ps ++ front.0) (sym it.all)),
          subst (λ (o : Result (Option Ending) AuditEnd). SoEnds o text left_then ring it.now) none
              (so-ends text reader new left left_then packets packet ring it.now on (sym it.all) r is.0
              (is.1 text packets on.later on.tells)),
        );
  }

  pub settle-stops : (new_then : PacketReader) (a_then : Auditor) (b_then : Batch) (end : AuditEnd)
      → SettlesUp asks ring at.before at.waiting at.written now then a_then b_then (Err end)
      → ReadsOne asks ring told held new_then left_then then a_then b_then (Err end)
  settle-stops new_then a_then b_then ends.WriteFault it =
      part-told at.waiting it (λ text e. reading-front text reader left _ (at.reading text e))
  settle-stops new_then a_then b_then ends.Memory it =
      part-told at.waiting it (λ text e. reading-front text reader left _ (at.reading text e))
  settle-stops new_then a_then b_then _ it = absurd it

  -- there was no memory
  pub not-read : (new_then : PacketReader) (a_then : Auditor) (b_then : Batch) (r : Result Bool FileEnd) (end : AuditEnd)
      → ending_of r ≡ Err end → ReadsOne asks ring told held new_then left_then now a_then b_then (Err end)
  not-read new_then a_then b_then r end is =
      subst (λ (x : AuditEnd). ReadsOne asks ring told held new_then left_then now a_then b_then (Err x))
      (sym (only-memory r end is)) nothing-more

-- reading up to there stopped
pub reads-stop : (asks : Asks) (ring : Ring) (told held : Option (List ℕ)) (reader : PacketReader) (left then : Option (List ℕ))
    (a : Auditor) (b : Batch) (end : AuditEnd) → ReadsOne asks ring told held reader left then a b (Err end)
    → ReadsUp asks ring told held left then a b (Err end)
reads-stop asks ring told held reader left then a b ends.WriteFault is = is
reads-stop asks ring told held reader left then a b ends.Memory is = is
reads-stop asks ring told held reader left then a b _ is = absurd is
