-- What is seen of a capture, or why nothing is.
use Rattle.std.proofs.Common.{◌≡◌, ◌∙◌, ◌≤◌, inl, inr, ℕ, Bool, List, [], Option, Some, None, Ok, Err, refl, sym, ap, arith}
use Rattle.std.specs.Prelude.{IfOk, Result}
use Rattle.audit_facts.specs.declared.view.AuditView.{AuditView}
use Rattle.audit_report.specs.Verdicts.{blame}
use Rattle.audit_report.specs.declared.ending.Ending.{Ending}
use Rattle.audit_report.specs.declared.ending.Ending.TheVariants as endings
use Rattle.audit_report.specs.declared.tally.Tally.{Tally}
use Rattle.key_ring.specs.Reading.{ReadsRing}
use Rattle.key_ring.specs.Rings.{Ring}
use Rattle.key_ring.specs.Reading.{RingEnd}
use Rattle.text_lines.specs.declared.reading.End.TheVariants as rings
use Rattle.lan_base.specs.Faults.{Rose}
use Rattle.octet_supply.specs.Supplying.{Held}
use Rattle.capture_audit.specs.declared.asks.Asks.{Asks}
use Rattle.capture_audit.specs.declared.auditor.Auditor.{Auditor}
use Rattle.capture_audit.specs.declared.batch.Batch.{Batch}
use Rattle.capture_audit.specs.declared.end.AuditEnd.{AuditEnd}
use Rattle.capture_audit.specs.declared.end.AuditEnd.TheVariants as ends
use Rattle.capture_audit.specs.Ends.{EndsAudit}
use Rattle.capture_audit.specs.Reading.{IsRead}
use Rattle.capture_audit.specs.Views.{Views, end_seen}
use Rattle.capture_audit.specs.inside.Auditing.{HasRead, IsHeadRead, OpensFile, ReadsUp, end_of_ring}
use Rattle.capture_audit.specs.inside.Keeping.{EndsOf}
use Rattle.capture_audit.specs.inside.Viewing.{IsEndOfHand, ReadsCapture}
use Rattle.capture_audit.proofs.HeadsRead.{ring-failed, ring-past}
use Rattle.capture_audit.proofs.Opening.{ring-said}
use Rattle.capture_audit.proofs.Reporting.{ends-of}

-- ---- nothing is seen

pub ring-views : (text : List ℕ) (left : Option (List ℕ)) (end : RingEnd) → ReadsRing text left (Err end)
    → Views text left (Err (end_of_ring end))
ring-views text left (rings.Refused (line, why)) is = is
ring-views text left rings.Limit is = ring-past text left is
ring-views text left rings.ReadFault is = ring-failed text left is
ring-views text left rings.Memory is = tt

pub set-views : (X : Type 0) (text : List ℕ) (left left_then : Option (List ℕ)) (ring : Ring) (supply : Option Held)
    (end : AuditEnd) → ReadsRing text left (Ok (ring, supply)) → EndsOf {X = X} ring (Err end)
    → Views text left_then (Err end)
set-views X text left left_then ring supply ends.KeyLimit is many =
    record { ring = ring; said = ring-said text left ring supply is; many = many }
set-views X text left left_then ring supply ends.Memory is many = tt
set-views X text left left_then ring supply _ is many = absurd many

pub hand-views : (text : List ℕ) (left left_then : Option (List ℕ)) (ring : Ring) (supply : Option Held) (end : AuditEnd)
    → ReadsRing text left (Ok (ring, supply)) → IsEndOfHand ring.hand end → Views text left_then (Err end)
hand-views text left left_then ring supply ends.KeyLimit is many =
    record { ring = ring; said = ring-said text left ring supply is; many = many }
hand-views text left left_then ring supply ends.Memory is many = tt
hand-views text left left_then ring supply _ is many = absurd many

pub open-views : (text : List ℕ) (left : Option (List ℕ)) (end : AuditEnd) → OpensFile text left (Err end)
    → Views text left (Err end)
open-views text left (ends.Refused at why) is = is
open-views text left ends.InputLimit is = is
open-views text left ends.ReadFault is = is
open-views text left ends.Memory is = tt
open-views text left _ is = absurd is

-- ---- packets were read

module _ (asks : Asks) (text : List ℕ) (ring : Ring) (left : Option (List ℕ)) (a : Auditor) (b : Batch) where
  has-read : (ending : Ending) (then : Option (List ℕ)) → IsHeadRead text ring
      → (read : HasRead asks ring (Some text) None ending left then a b) → IsRead text left ring read.packets ending
  has-read ending then head read = record {
    said = head.said;
    head = head.head;
    opens = head.opens;
    unwrapped = read.keeps.unwrapped;
    few = read.keeps.few;
    first = (read.ends text refl).0;
    ends = (read.ends text refl).1;
  }

  pub captured : (then : Option (List ℕ)) (r : Result Ending AuditEnd) → IsHeadRead text ring
      → (r ≡ Err ends.WriteFault → ⊥) → ReadsUp asks ring (Some text) None left then a b r
      → ReadsCapture text ring left a r
  captured then (Ok ending) head written is = (is.packets, has-read ending then head is, is.keeps)
  captured then (Err ends.WriteFault) head written is = absurd (written refl)
  captured then (Err ends.Memory) head written is = tt
  captured then (Err _) head written is = absurd is

pub never-failed : (asks : Asks) (ring : Ring) (told held left then : Option (List ℕ)) (a : Auditor) (b : Batch)
    (r : Result Ending AuditEnd) → ReadsUp asks ring told held left then a b r → r ≡ Err ends.ReadFault → ⊥
never-failed asks ring told held left then a b (Ok ending) is e = cc e
never-failed asks ring told held left then a b (Err ends.WriteFault) is e = cc e
never-failed asks ring told held left then a b (Err ends.Memory) is e = cc e
never-failed asks ring told held left then a b (Err _) is e = is

-- a count that stays at nothing did not rise
pub steady : Rose 0 0 → ⊥
steady (inl less) = omega arith
steady (inr most) = omega arith

-- ---- how the audit ends

abbrev pub FailsAs : Type 0 → Result AuditView AuditEnd → Type 0
FailsAs failed result = IfOk result (λ view. view.ending ≡ endings.Fault → failed)

pub fails-earlier : (failed before : Type 0) (r : Result AuditView AuditEnd) → (failed → before) → FailsAs failed r
    → FailsAs before r
fails-earlier failed before (Ok view) then so = λ e. then (so e)
fails-earlier failed before (Err end) then so = tt

-- what was read ended by a fault
pub fails-by : (failed : Type 0) (read : Result Ending AuditEnd) (r : Result AuditView AuditEnd)
    → (read ≡ Ok endings.Fault → failed) → IfOk r (λ view. read ≡ Ok view.ending) → FailsAs failed r
fails-by failed read (Ok view) so is = λ e. so (is ∙ ap (λ (x : Ending). Ok x) e)
fails-by failed read (Err end) so is = tt

module _ (asks : Asks) (text : List ℕ) (left : Option (List ℕ)) (failed : Type 0) where
  pub views-end : (r : Result AuditView AuditEnd) → Views text left r → FailsAs failed r
      → EndsAudit asks text left failed None None (end_seen asks.strict r)
  views-end (Ok view) is so =
      ends-of asks text left None None failed (blame asks.strict view.tally view.verdict) view.ending so (record {
        ring = is.ring;
        packets = is.packets;
        verdict = view.verdict;
        read = is.read;
        judged = is.judged;
        blame_is = ap (λ (t : Tally). blame asks.strict t view.verdict) (sym is.counted);
        written = refl;
      })
  views-end (Err (ends.KeyLine line why)) is so = (is, refl)
  views-end (Err (ends.Refused at why)) is so = inl (is, refl)
  views-end (Err ends.InputLimit) is so = inl (is, refl)
  views-end (Err ends.KeyLimit) is so = inl (is, refl)
  views-end (Err ends.ReadFault) is so = inl (is, refl)
  views-end (Err ends.Memory) is so = inl refl
  views-end (Err _) is so = absurd is
