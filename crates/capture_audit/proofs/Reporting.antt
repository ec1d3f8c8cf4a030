-- What was read is reported.
use Rattle.std.proofs.Common.{◌≡◌, ◌∙◌, ◌<◌, inl, inr, ℕ, Bool, List, [], ◌++◌, length, Option, Some, Err, refl, sym, ap, append_assoc}
use Rattle.std.proofs.lemmas.List.{append-nil}
use Rattle.audit_report.specs.declared.blame.Blame.{Blame}
use Rattle.audit_report.specs.declared.blame.Blame.TheVariants as blames
use Rattle.audit_report.specs.declared.ending.Ending.{Ending}
use Rattle.audit_report.specs.declared.ending.Ending.TheVariants as endings
use Rattle.audit_report.specs.declared.tally.Tally.{Tally}
use Rattle.audit_report.specs.Lines.{set_lines}
use Rattle.audit_report.specs.Report as reports
use Rattle.audit_report.specs.Verdicts.{Verdict, blame}
use Rattle.capture_packets.specs.declared.reader.PacketReader.{PacketReader}
use Rattle.key_ring.specs.Rings.{Ring}
use Rattle.lan_base.specs.Told.{after}
use Rattle.capture_audit.specs.declared.asks.Asks.{Asks}
use Rattle.capture_audit.specs.declared.auditor.Auditor.{Auditor}
use Rattle.capture_audit.specs.declared.batch.Batch.{Batch}
use Rattle.capture_audit.specs.declared.end.AuditEnd.{AuditEnd}
use Rattle.capture_audit.specs.declared.end.AuditEnd.TheVariants as ends
use Rattle.capture_audit.specs.Ends.{EndsAudit, IsFrontReported, IsFrontTold, IsReported, end_at, end_of}
use Rattle.capture_audit.specs.Reading.{IsRead}
use Rattle.capture_audit.specs.Telling.{IsVerdict, all_told, numbered_hand, report}
use Rattle.capture_audit.specs.inside.Auditing.{HasRead, IsAuditing, IsHeadRead, IsPartTold, ReadsUp}
use Rattle.capture_audit.specs.inside.Batches.{Writes}
use Rattle.capture_audit.proofs.Going.{after-both, are-first}

-- a part of the lines of packets was written
pub part-told : (asks : Asks) (text : List ℕ) (ring : Ring) (held then : Option (List ℕ)) → IsHeadRead text ring
    → IsPartTold asks ring (Some text) held then → IsFrontTold asks text held then
part-told asks text ring held then head part = record {
  ring = ring;
  packets = part.packets;
  said = head.said;
  first = part.first text refl;
  unwrapped = part.unwrapped;
  more = part.more;
  rest = part.rest;
  parts = part.lines;
  written = part.written_is;
}

pub reads-end : (asks : Asks) (text : List ℕ) (ring : Ring) (left held then : Option (List ℕ)) (failed : Type 0) (a : Auditor) (b : Batch)
    (end : AuditEnd) → IsHeadRead text ring → ReadsUp asks ring (Some text) held left then a b (Err end)
    → EndsAudit asks text left failed held then (Err end)
reads-end asks text ring left held then failed a b ends.WriteFault head is =
    inl (part-told asks text ring held then head is)
reads-end asks text ring left held then failed a b ends.Memory head is =
    inr (inl (part-told asks text ring held then head is))
reads-end asks text ring left held then failed a b _ head is = absurd is

pub not-failed : (asks : Asks) (ring : Ring) (told held left then : Option (List ℕ)) (a : Auditor) (b : Batch)
    (end : AuditEnd) → ReadsUp asks ring told held left then a b (Err end) → end ≡ ends.ReadFault → ⊥
not-failed asks ring told held left then a b ends.WriteFault is e = cc e
not-failed asks ring told held left then a b ends.Memory is e = cc e
not-failed asks ring told held left then a b _ is e = is

-- ---- the lines before the packets

module _ (asks : Asks) (ring : Ring) (told held : Option (List ℕ)) (reader : PacketReader)
    (left now then : Option (List ℕ)) (a : Auditor) (b : Batch)
    (at : IsAuditing asks ring told held reader left now a b) where
  pub written-on : (b_then : Batch) → then ≡ after now b.text.items → b_then.text.items ≡ []
      → b_then.waiting.items ≡ b.waiting.items → b_then.trials.items ≡ b.trials.items → b_then.asks ≡ b.asks
      → IsAuditing asks ring told held reader left then a b_then
  written-on b_then is empty waiting trials shown = record {
    before = at.before;
    waiting = at.waiting;
    written = at.written ++ b.text.items;
    written_is = is ∙ ap (λ (o : Option (List ℕ)). after o b.text.items) at.written_is
        ∙ after-both held at.written b.text.items;
    stands = record {
      keeps = at.stands.keeps;
      asks_are = shown ∙ at.stands.asks_are;
      waits = rw (waiting, trials) at.stands.waits;
      lines = ap (λ (xs : List ℕ). (at.written ++ b.text.items) ++ xs) empty
          ∙ append-nil (at.written ++ b.text.items) ∙ at.stands.lines;
    };
    reading = at.reading;
  }

  part-of : (more : List ℕ) × (rest : List ℕ) × (0 < length rest) × (more ++ rest ≡ b.text.items) × (then ≡ after now more)
      → IsPartTold asks ring told held then
  part-of it = record {
    packets = at.before;
    unwrapped = at.stands.keeps.unwrapped;
    first = are-first asks ring told held reader reader left left now now a b at;
    more = at.written ++ it.0;
    rest = it.1;
    lines = append_assoc at.written it.0 it.1 ∙ ap (λ (xs : List ℕ). at.written ++ xs) it.3 ∙ at.stands.lines;
    written_is = it.4 ∙ ap (λ (o : Option (List ℕ)). after o it.0) at.written_is ∙ after-both held at.written it.0;
  }

  pub write-stops : (a_then : Auditor) (b_then : Batch) (left_then : Option (List ℕ)) (end : AuditEnd)
      → Writes b.text.items now then (Err end) → ReadsUp asks ring told held left_then then a_then b_then (Err end)
  write-stops a_then b_then left_then ends.WriteFault it = part-of it
  write-stops a_then b_then left_then ends.Memory it = part-of it
  write-stops a_then b_then left_then _ it = absurd it

-- ---- the report

module _ (asks : Asks) (text : List ℕ) (ring : Ring) (left held now then : Option (List ℕ)) (ending : Ending)
    (a : Auditor) (b : Batch) (head : IsHeadRead text ring)
    (read : HasRead asks ring (Some text) held ending left now a b) where
  is-read : IsRead text left ring read.packets ending
  is-read = record {
    said = head.said;
    head = head.head;
    opens = head.opens;
    unwrapped = read.keeps.unwrapped;
    few = read.keeps.few;
    first = (read.ends text refl).0;
    ends = (read.ends text refl).1;
  }

  -- lines of packets alone were written
  lines-alone : IsFrontTold asks text held now
  lines-alone = record {
    ring = ring;
    packets = read.packets;
    said = head.said;
    first = (read.ends text refl).0;
    unwrapped = read.keeps.unwrapped;
    more = read.written;
    rest = b.text.items;
    parts = read.lines;
    written = read.written_is;
  }

  pub no-memory : (failed : Type 0) → EndsAudit asks text left failed held now (Err ends.Memory)
  no-memory failed = inr (inl lines-alone)

  whole : (v : Verdict) (lines : List ℕ) → lines ≡ b.text.items ++ reports.end_lines a.tally v ending
      → read.written ++ lines ≡ report asks ring read.packets v ending
  whole v lines is =
      let end = reports.end_lines a.tally v ending in
      let set = set_lines asks.keys (numbered_hand ring) in
      let told = reports.packet_lines asks.shows asks.keys (all_told ring read.packets) in
      ap (λ (xs : List ℕ). read.written ++ xs) is ∙ sym (append_assoc read.written b.text.items end)
      ∙ ap (λ (xs : List ℕ). xs ++ end) read.lines ∙ append_assoc set told end
      ∙ ap (λ (t : Tally). set ++ (told ++ reports.end_lines t v ending)) read.keeps.tally

  pub reported : (v : Verdict) (lines : List ℕ) → lines ≡ b.text.items ++ reports.end_lines a.tally v ending
      → IsVerdict ring read.packets v → then ≡ after now lines
      → IsReported asks text left ending (blame asks.strict a.tally v) held then
  reported v lines is judged done = record {
    ring = ring;
    packets = read.packets;
    verdict = v;
    read = is-read;
    judged = judged;
    blame_is = ap (λ (t : Tally). blame asks.strict t v) (sym read.keeps.tally);
    written = done ∙ ap (λ (o : Option (List ℕ)). after o lines) read.written_is ∙ after-both held read.written lines
        ∙ ap (λ (xs : List ℕ). after held xs) (whole v lines is);
  }

  front-reported : (v : Verdict) (lines : List ℕ) → lines ≡ b.text.items ++ reports.end_lines a.tally v ending
      → IsVerdict ring read.packets v
      → (more : List ℕ) × (rest : List ℕ) × (0 < length rest) × (more ++ rest ≡ lines) × (then ≡ after now more)
      → IsFrontReported asks text left held then
  front-reported v lines is judged it = record {
    ring = ring;
    packets = read.packets;
    verdict = v;
    ending = ending;
    read = is-read;
    judged = judged;
    more = read.written ++ it.0;
    rest = it.1;
    less = it.2;
    parts = append_assoc read.written it.0 it.1 ∙ ap (λ (xs : List ℕ). read.written ++ xs) it.3 ∙ whole v lines is;
    written = it.4 ∙ ap (λ (o : Option (List ℕ)). after o it.0) read.written_is ∙ after-both held read.written it.0;
  }

  pub write-ends : (failed : Type 0) (v : Verdict) (lines : List ℕ) (end : AuditEnd)
      → lines ≡ b.text.items ++ reports.end_lines a.tally v ending
      → IsVerdict ring read.packets v → Writes lines now then (Err end)
      → EndsAudit asks text left failed held then (Err end)
  write-ends failed v lines ends.WriteFault is judged it = inr (front-reported v lines is judged it)
  write-ends failed v lines ends.Memory is judged it = inr (inr (front-reported v lines is judged it))
  write-ends failed v lines _ is judged it = absurd it

module _ (asks : Asks) (text : List ℕ) (left held then : Option (List ℕ)) (failed : Type 0) where
  -- to blame for nothing
  ends-at : (ending : Ending) → IsReported asks text left ending blames.None held then
      → EndsAudit asks text left failed held then (end_at ending)
  ends-at endings.Whole is = is
  ends-at endings.Fault is = inr is
  ends-at endings.InputLimit is = inr is
  ends-at endings.KeyLimit is = inr is
  ends-at (endings.Octet at why) is = inr is

  pub ends-of : (blamed : Blame) (ending : Ending) → (ending ≡ endings.Fault → failed)
      → IsReported asks text left ending blamed held then
      → EndsAudit asks text left failed held then (end_of blamed ending)
  ends-of blames.None ending so is = ends-at ending is
  ends-of (blames.Refuted breach) ending so is = (ending, so, is)
  ends-of (blames.Doubted wrong undecided) ending so is = (ending, so, is)
  ends-of blames.NotJudged ending so is = (ending, so, is)

-- ---- which faults an end can be
