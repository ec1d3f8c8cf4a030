-- What is seen of a capture whose packets were read, and how its audit ends.
use Rattle.std.specs.Prelude.{⊤, ◌≡◌, ℕ, Bool, List, Option, Result, Ok, Err}
use Rattle.audit_facts.specs.Noted.{events}
use Rattle.audit_facts.specs.Standing.{StandsFor as FactsStandFor}
use Rattle.audit_facts.specs.declared.view.AuditView.{AuditView}
use Rattle.audit_report.specs.Tallies.{tally_of}
use Rattle.audit_report.specs.Verdicts.{blame}
use Rattle.key_ring.specs.Rings.{Ring, ring_in}
use Rattle.rollover_notes.specs.Reported.{AreReportsOf}
use Rattle.capture_audit.specs.declared.end.AuditEnd.{AuditEnd}
use Rattle.capture_audit.specs.declared.end.AuditEnd.TheVariants as ends
use Rattle.capture_audit.specs.Before.{Unwrapped}
use Rattle.capture_audit.specs.Ends.{HasManySet, end_of}
use Rattle.capture_audit.specs.Reading.{IsHeadFailed, IsHeadPast, IsHeadRefused, IsRead}
use Rattle.capture_audit.specs.Telling.{IsVerdict, all_told, noted, numbered_hand}

-- The packets of a text were read, and this is seen of them: how reading ended, what is judged and counted,
-- the keys that are set by hand, what members reported, and what is marked.
pub record IsViewed (text : List ℕ) (left : Option (List ℕ)) (view : AuditView) : Type 0 where
  pub ring : Ring
  pub packets : List Unwrapped
  pub read : IsRead text left ring packets view.ending
  pub judged : IsVerdict ring packets view.verdict
  pub counted : view.tally ≡ tally_of (all_told ring packets)
  pub hand : view.hand.items ≡ numbered_hand ring
  pub reported : AreReportsOf (events (noted ring packets)) view.reports.items
  pub facts : FactsStandFor (noted ring packets) view.facts

-- Of a text whose head was read this is seen. Of another nothing is: a key line is refused, or the head is, or
-- that was not read; or the keys that are set by hand are too many.
abbrev pub Views : List ℕ → Option (List ℕ) → Result AuditView AuditEnd → Type 0
Views text left (Ok view) = IsViewed text left view
Views text left (Err (ends.KeyLine line why)) = ring_in text ≡ Err (record { line = line; why = why })
Views text left (Err (ends.Refused at why)) = IsHeadRefused text at why
Views text left (Err ends.InputLimit) = IsHeadPast text
Views text left (Err ends.KeyLimit) = HasManySet text
Views text left (Err ends.ReadFault) = IsHeadFailed text left
Views text left (Err ends.Memory) = ⊤
Views text left (Err _) = ⊥

-- how an audit ends of whose capture this is seen
abbrev pub end_seen : Bool → Result AuditView AuditEnd → Result (Unit {0}) AuditEnd
end_seen strict (Ok view) = end_of (blame strict view.tally view.verdict) view.ending
end_seen strict (Err end) = Err end
