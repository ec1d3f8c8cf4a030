-- What was read decides how the program ends, where nothing fails outside.
use Rattle.std.proofs.Common.{◌≡◌, ℕ, List, Result, Ok, Err, inl, inr, refl, subst, sym}
use Rattle.std.specs.Prelude.{◌⊎◌}
use Rattle.text_lines.specs.Reading.{Sourced}
use Rattle.transcript_check.specs.declared.verdict.Verdict.{Verdict}
use Rattle.transcript_check.specs.declared.fault.CheckFault.{CheckFault}
use Rattle.text_lines.specs.declared.unfinished.Unfinished.{Unfinished}
use Rattle.text_lines.specs.declared.unfinished.Unfinished.TheVariants as unfinished
use Rattle.transcript_capture.specs.declared.fault.LineFault.{LineFault}
use Rattle.capture_file.specs.declared.fault.CaptureFault.{CaptureFault}
use Rattle.audit_facts.specs.declared.view.AuditView.{AuditView}
use Rattle.capture_audit.specs.declared.asks.Asks.{Asks}
use Rattle.capture_audit.specs.declared.end.AuditEnd.{AuditEnd}
use Rattle.capture_audit.specs.declared.end.AuditEnd.TheVariants as ends
use Rattle.capture_audit.specs.Views.{end_seen}
use Rattle.replay.specs.Sinks.{Sunk}
use Rattle.rollover_program.specs.declared.status.Status.{Status}
use Rattle.rollover_program.specs.declared.status.Status.TheVariants as statuses
use Rattle.rollover_program.specs.declared.status.Status.TheVariants.{Done, Usage, CheckInput, Refuted, Transcript, CaptureInput, Unrecorded, KeyLine, Keys, CaptureRefuted, CaptureDoubted, CaptureNotJudged, Packets, Trace, ReadFault, WriteFault, Memory, Input, Limit, RepeatedDraw, Forged}
use Rattle.rollover_program.specs.Carried.{IsDecided}
use Rattle.rollover_program.specs.commands.Check.{EndsAsCheck, Tells, status_of}
use Rattle.rollover_program.specs.commands.Capture.{EndsAsCapture, status_of_capture}
use Rattle.rollover_program.specs.commands.Dissect.{EndsAsDissect, status_of_telling}
use Rattle.rollover_program.specs.commands.Draw.{EndsAsDraw, Shows}
use Rattle.rollover_program.specs.commands.Audit.{EndsAsAudit, EndsAsView, ShowsSeen, status_behind, status_of_audit}
use Rattle.rollover_program.proofs.Judged.{other-status}

-- the program is halted from outside alone, or for want of memory
abbrev pub IsHaltedOutside : Status → Type 0
IsHaltedOutside Usage = ⊥
IsHaltedOutside (Trace line kind) = ⊥
IsHaltedOutside Input = ⊥
IsHaltedOutside (Limit which) = ⊥
IsHaltedOutside (RepeatedDraw first second) = ⊥
IsHaltedOutside (Forged line) = ⊥
IsHaltedOutside status = Unit {0}

-- what was read decides, unless memory runs out
abbrev pub EndsDecided : Status → Type 0
EndsDecided status = IsDecided status ⊎ (status ≡ Memory)

pub decided : (status : Status) → IsHaltedOutside status → (status ≡ ReadFault → ⊥)
    → (status ≡ WriteFault → ⊥) → EndsDecided status
decided Done outside reads writes = inl tt
decided Usage outside reads writes = absurd outside
decided (Trace line kind) outside reads writes = absurd outside
decided ReadFault outside reads writes = absurd (reads refl)
decided WriteFault outside reads writes = absurd (writes refl)
decided Memory outside reads writes = inr refl
decided Input outside reads writes = absurd outside
decided (Limit which) outside reads writes = absurd outside
decided (RepeatedDraw first second) outside reads writes = absurd outside
decided (Forged line) outside reads writes = absurd outside
decided CheckInput outside reads writes = inl tt
decided Refuted outside reads writes = inl tt
decided (Transcript line why) outside reads writes = inl tt
decided CaptureInput outside reads writes = inl tt
decided (Unrecorded line why) outside reads writes = inl tt
decided (statuses.Capture at why) outside reads writes = inl tt
decided (KeyLine line why) outside reads writes = inl tt
decided Keys outside reads writes = inl tt
decided (CaptureRefuted breach) outside reads writes = inl tt
decided (CaptureDoubted wrong undecided) outside reads writes = inl tt
decided CaptureNotJudged outside reads writes = inl tt
decided (Packets at why) outside reads writes = inl tt

-- ---- by what each command answers

by_verdict : (verdict : Verdict) (old new : Sunk) (status : Status) → Tells verdict old new status
    → IsHaltedOutside status
by_verdict verdict old new Done tells = tt
by_verdict verdict old new Usage tells = other-status verdict Usage (λ is. cc is) (λ is. cc is) tells.0
by_verdict verdict old new (Trace line kind) tells =
    absurd (other-status verdict (Trace line kind) (λ is. cc is) (λ is. cc is) tells.0)
by_verdict verdict old new ReadFault tells = tt
by_verdict verdict old new WriteFault tells = tt
by_verdict verdict old new Memory tells = tt
by_verdict verdict old new Input tells =
    absurd (other-status verdict Input (λ is. cc is) (λ is. cc is) tells.0)
by_verdict verdict old new (Limit which) tells =
    absurd (other-status verdict (Limit which) (λ is. cc is) (λ is. cc is) tells.0)
by_verdict verdict old new (RepeatedDraw first second) tells =
    absurd (other-status verdict (RepeatedDraw first second) (λ is. cc is) (λ is. cc is) tells.0)
by_verdict verdict old new (Forged line) tells =
    absurd (other-status verdict (Forged line) (λ is. cc is) (λ is. cc is) tells.0)
by_verdict verdict old new CheckInput tells = tt
by_verdict verdict old new Refuted tells = tt
by_verdict verdict old new (Transcript line why) tells = tt
by_verdict verdict old new CaptureInput tells = tt
by_verdict verdict old new (Unrecorded line why) tells = tt
by_verdict verdict old new (statuses.Capture at why) tells = tt
by_verdict verdict old new (KeyLine line why) tells = tt
by_verdict verdict old new Keys tells = tt
by_verdict verdict old new (CaptureRefuted breach) tells = tt
by_verdict verdict old new (CaptureDoubted wrong undecided) tells = tt
by_verdict verdict old new CaptureNotJudged tells = tt
by_verdict verdict old new (Packets at why) tells = tt

by_picture : (picture : List ℕ) (old new : Sunk) (status : Status) → Shows picture old new status
    → IsHaltedOutside status
by_picture picture old new Done shows = tt
by_picture picture old new Usage shows = cc shows.0
by_picture picture old new (Trace line kind) shows = absurd (cc shows.0)
by_picture picture old new ReadFault shows = tt
by_picture picture old new WriteFault shows = tt
by_picture picture old new Memory shows = tt
by_picture picture old new Input shows = absurd (cc shows.0)
by_picture picture old new (Limit which) shows = absurd (cc shows.0)
by_picture picture old new (RepeatedDraw first second) shows = absurd (cc shows.0)
by_picture picture old new (Forged line) shows = absurd (cc shows.0)
by_picture picture old new CheckInput shows = tt
by_picture picture old new Refuted shows = tt
by_picture picture old new (Transcript line why) shows = tt
by_picture picture old new CaptureInput shows = tt
by_picture picture old new (Unrecorded line why) shows = tt
by_picture picture old new (statuses.Capture at why) shows = tt
by_picture picture old new (KeyLine line why) shows = tt
by_picture picture old new Keys shows = tt
by_picture picture old new (CaptureRefuted breach) shows = tt
by_picture picture old new (CaptureDoubted wrong undecided) shows = tt
by_picture picture old new CaptureNotJudged shows = tt
by_picture picture old new (Packets at why) shows = tt

by_unfinished : (why : Unfinished CheckFault) → IsHaltedOutside (status_of why)
by_unfinished (unfinished.Refused line fault) = tt
by_unfinished unfinished.Memory = tt
by_unfinished unfinished.ReadFault = tt
by_unfinished unfinished.WriteFault = tt
by_unfinished unfinished.Limit = tt

by_capture : (r : Result (Unit {0}) (Unfinished LineFault)) → IsHaltedOutside (status_of_capture r)
by_capture (Ok done) = tt
by_capture (Err (unfinished.Refused line why)) = tt
by_capture (Err unfinished.Limit) = tt
by_capture (Err unfinished.ReadFault) = tt
by_capture (Err unfinished.WriteFault) = tt
by_capture (Err unfinished.Memory) = tt

by_telling : (r : Result (Unit {0}) (Unfinished CaptureFault)) → IsHaltedOutside (status_of_telling r)
by_telling (Ok done) = tt
by_telling (Err (unfinished.Refused at why)) = tt
by_telling (Err unfinished.Limit) = tt
by_telling (Err unfinished.ReadFault) = tt
by_telling (Err unfinished.WriteFault) = tt
by_telling (Err unfinished.Memory) = tt

by_audit : (r : Result (Unit {0}) AuditEnd) → IsHaltedOutside (status_of_audit r)
by_audit (Ok done) = tt
by_audit (Err (ends.KeyLine line why)) = tt
by_audit (Err (ends.Refuted breach)) = tt
by_audit (Err (ends.Doubted wrong undecided)) = tt
by_audit (Err ends.NotJudged) = tt
by_audit (Err (ends.Refused at why)) = tt
by_audit (Err ends.InputLimit) = tt
by_audit (Err ends.KeyLimit) = tt
by_audit (Err ends.ReadFault) = tt
by_audit (Err ends.WriteFault) = tt
by_audit (Err ends.Memory) = tt

-- how a picture of it was shown
by_behind : (picture : List ℕ) (old new : Sunk) (shown : Status) (end : Result (Unit {0}) AuditEnd)
    → Shows picture old new shown → IsHaltedOutside (status_behind shown end)
by_behind picture old new Done end shows = by_audit end
by_behind picture old new WriteFault end shows = tt
by_behind picture old new Memory end shows = tt
by_behind picture old new _ end shows = absurd (cc shows.0)

by_view : (asks : Asks) (seen : Result AuditView AuditEnd) (old new : Sunk) (status : Status)
    → ShowsSeen asks seen old new status → IsHaltedOutside status
by_view asks (Err end) old new status it = subst IsHaltedOutside (sym it.0) (by_audit (Err end))
by_view asks (Ok view) old new status (inl it) =
    subst IsHaltedOutside (sym it.3) (by_behind it.0 old new it.1 (end_seen asks.strict (Ok view)) it.2)
by_view asks (Ok view) old new status (inr it) = subst IsHaltedOutside (sym it.0) tt

-- ---- by the command

module _ (left now : Sourced) (old new : Sunk) (status : Status) where
  pub checked : (text : List ℕ) → EndsAsCheck text left now old new status → IsHaltedOutside status
  checked text (inl e) = by_verdict e.0 old new status e.2
  checked text (inr e) = subst IsHaltedOutside (sym e.2) (by_unfinished e.0)

  pub captured : (text : List ℕ) → EndsAsCapture text left now old new status → IsHaltedOutside status
  captured text e = subst IsHaltedOutside (sym e.2) (by_capture e.0)

  pub dissected : (file : List ℕ) → EndsAsDissect file now.left old.held new.held status → IsHaltedOutside status
  dissected file e = subst IsHaltedOutside (sym e.2) (by_telling e.0)

  pub drawn : (text : List ℕ) → EndsAsDraw text left now old new status → IsHaltedOutside status
  drawn text (inl e) = by_picture e.0 old new status e.2
  drawn text (inr e) = subst IsHaltedOutside (sym e.2) (by_unfinished e.0)

  pub audited : (asks : Asks) (text : List ℕ) (failed : Type 0)
      → EndsAsAudit asks text now.left failed old.held new.held status → IsHaltedOutside status
  audited asks text failed e = subst IsHaltedOutside (sym e.2) (by_audit e.0)

  pub viewed : (asks : Asks) (text : List ℕ) (failed : Type 0)
      → EndsAsView asks text now.left failed old new status → IsHaltedOutside status
  viewed asks text failed e = by_view asks e.0 old new status e.3
