-- How the packets of a capture are read of which it is answered what is seen.
use Rattle.std.specs.Prelude.{⊤, ℕ, List, [], Option, Result, Ok, Err}
use Rattle.audit_report.specs.declared.ending.Ending.{Ending}
use Rattle.key_ring.specs.declared.ring.HandKey.{HandKey}
use Rattle.key_ring.specs.Rings.{Ring}
use Rattle.capture_audit.specs.declared.auditor.Auditor.{Auditor}
use Rattle.capture_audit.specs.declared.end.AuditEnd.{AuditEnd}
use Rattle.capture_audit.specs.declared.end.AuditEnd.TheVariants as ends
use Rattle.capture_audit.specs.Before.{Unwrapped, set_behind}
use Rattle.capture_audit.specs.Reading.{IsRead}
use Rattle.capture_audit.specs.Views.{Views}
use Rattle.capture_audit.specs.inside.Keeping.{AreTooMany, Keeps}

-- why keys that are set by hand have no numbers
abbrev pub IsEndOfHand : List HandKey → AuditEnd → Type 0
IsEndOfHand hand ends.KeyLimit = AreTooMany (set_behind [] hand)
IsEndOfHand hand ends.Memory = ⊤
IsEndOfHand hand _ = ⊥

-- the packets of a text were read, and are kept; or nothing is seen of it
abbrev pub ReadsCapture : List ℕ → Ring → Option (List ℕ) → Auditor → Result Ending AuditEnd → Type 0
ReadsCapture text ring left a (Ok ending) =
    (packets : List Unwrapped) × IsRead text left ring packets ending × Keeps ring packets a
ReadsCapture text ring left a (Err end) = Views text left (Err end)
