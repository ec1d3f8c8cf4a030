-- `audit`: a capture of a protected LAN is judged with its keys.
use Rattle.std.specs.Prelude.{◌≡◌, ◌⊎◌, ℕ, List, [], Option, Some, None, Result, Ok, Err}
use Rattle.lan_base.specs.Faults.{Rose}
use Rattle.replay.specs.Sinks.{Sunk}
use Rattle.audit_facts.specs.declared.view.AuditView.{AuditView}
use Rattle.capture_audit.specs.declared.asks.Asks.{Asks}
use Rattle.capture_audit.specs.declared.end.AuditEnd.{AuditEnd}
use Rattle.capture_audit.specs.declared.end.AuditEnd.TheVariants as ends
use Rattle.capture_audit.specs.Before.{Unwrapped}
use Rattle.capture_audit.specs.Ends.{EndsAudit, IsBreach, IsBroken, end_for}
use Rattle.capture_audit.specs.Reading.{IsRead}
use Rattle.capture_audit.specs.Telling.{all_told}
use Rattle.capture_audit.specs.Views.{Views, end_seen}
use Rattle.audit_report.specs.Tallies.{tally_of}
use Rattle.audit_report.specs.Verdicts.{doubt}
use Rattle.audit_report.specs.declared.blame.Breach.{Breach}
use Rattle.audit_report.specs.declared.ending.Ending.TheVariants.{Whole}
use Rattle.key_ring.specs.Rings.{Ring}
use Rattle.rollover_program.specs.Outside.{Outside}
use Rattle.rollover_program.specs.commands.Draw.{Shows}
use Rattle.rollover_program.specs.declared.status.Status.{Status}
use Rattle.rollover_program.specs.declared.status.Status.TheVariants.{Done, KeyLine, CaptureRefuted, CaptureDoubted, CaptureNotJudged, Packets, CaptureInput, Keys, ReadFault, WriteFault, Memory}

-- the status of how an audit ended
abbrev pub status_of_audit : Result (Unit {0}) AuditEnd → Status
status_of_audit (Ok done) = Done
status_of_audit (Err (ends.KeyLine line why)) = KeyLine line why
status_of_audit (Err (ends.Refuted breach)) = CaptureRefuted breach
status_of_audit (Err (ends.Doubted wrong undecided)) = CaptureDoubted wrong undecided
status_of_audit (Err ends.NotJudged) = CaptureNotJudged
status_of_audit (Err (ends.Refused at why)) = Packets at why
status_of_audit (Err ends.InputLimit) = CaptureInput
status_of_audit (Err ends.KeyLimit) = Keys
status_of_audit (Err ends.ReadFault) = ReadFault
status_of_audit (Err ends.WriteFault) = WriteFault
status_of_audit (Err ends.Memory) = Memory

-- the capture was judged, and the status is that of how that ended
abbrev pub EndsAsAudit : Asks → List ℕ → Option (List ℕ) → Type 0 → Option (List ℕ) → Option (List ℕ)
    → Status → Type 0
EndsAsAudit asks text left failed held then status = (answer : Result (Unit {0}) AuditEnd)
    × EndsAudit asks text left failed held then answer × (status ≡ status_of_audit answer)

-- ---- and drawn

-- the status where a picture was shown so, of whose audit this is the end
abbrev pub status_behind : Status → Result (Unit {0}) AuditEnd → Status
status_behind Done answer = status_of_audit answer
status_behind status answer = status

-- Of what was seen a picture was written; a fault of the sink, and want of memory, leave a part of it, or nothing.
-- Where nothing was seen, nothing was written.
abbrev pub ShowsSeen : Asks → Result AuditView AuditEnd → Sunk → Sunk → Status → Type 0
ShowsSeen asks (Ok view) old new status =
    ((picture : List ℕ) × (shown : Status) × Shows picture old new shown
    × (status ≡ status_behind shown (end_seen asks.strict (Ok view))))
    ⊎ ((status ≡ Memory) × (new ≡ old))
ShowsSeen asks (Err end) old new status = (status ≡ status_of_audit (Err end)) × (new ≡ old)

-- the capture was seen, or why not; the audit ends so of which nothing is written; and what was seen was shown
abbrev pub EndsAsView : Asks → List ℕ → Option (List ℕ) → Type 0 → Sunk → Sunk → Status → Type 0
EndsAsView asks text left failed old new status = (seen : Result AuditView AuditEnd)
    × Views text left seen × EndsAudit asks text left failed None None (end_seen asks.strict seen)
    × ShowsSeen asks seen old new status

-- ---- of whole captures

-- the capture is refuted by what breaks of all its packets
abbrev pub IsRefutedBy : Ring → List Unwrapped → Status → Type 0
IsRefutedBy ring packets status =
    (breach : Breach) × IsBreach ring packets ⊥ breach × (status ≡ CaptureRefuted breach)

-- All these packets were judged: where a pair of them breaks what is judged the capture is refuted by the
-- least, and where none does it is doubted if that is asked for and the counts of its frames say so, and else
-- all is done.
abbrev pub EndsJudged : Asks → Ring → List Unwrapped → Status → Type 0
EndsJudged asks ring packets status =
    ((i j : ℕ) → IsBroken ring packets i j → IsRefutedBy ring packets status)
    × (((i j : ℕ) → IsBroken ring packets i j → ⊥)
    → status ≡ status_of_audit (end_for (doubt asks.strict (tally_of (all_told ring packets)))))

-- a text that can be read to its end is judged so
abbrev pub IsJudgedWhole : Asks → List ℕ → Status → Type 0
IsJudgedWhole asks text status = (ring : Ring) (packets : List Unwrapped)
    → IsRead text (Some []) ring packets Whole → EndsJudged asks ring packets status

-- such a text, where the source tells it, is without a fault, unless memory runs out
abbrev pub IsCompleteAudit : Asks → Outside → Status → Type 0
IsCompleteAudit asks o status = (text : List ℕ) → o.left.left ≡ Some text
    → (ring : Ring) (packets : List Unwrapped) → IsRead text (Some []) ring packets Whole
    → (Rose o.left.faults o.now.faults → ⊥) → (Rose o.old.faults o.new.faults → ⊥)
    → EndsJudged asks ring packets status ⊎ (status ≡ Memory)
