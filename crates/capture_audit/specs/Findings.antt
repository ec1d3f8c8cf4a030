-- What each packet is behind the ones before it.
use Rattle.std.specs.Prelude.{ℕ, List, Option, Some, None}
use Rattle.audit_report.specs.declared.finding.Finding.{Finding}
use Rattle.audit_report.specs.declared.finding.Finding.TheVariants as findings
use Rattle.known_keys.specs.History.{Entry}
use Rattle.known_keys.specs.Undecided.{undecided}
use Rattle.known_keys.specs.declared.reason.Reason.{Reason}
use Rattle.member_notes.specs.Mkpdus.{novelty_in as mkpdu_novelty}
use Rattle.member_notes.specs.declared.mkpdu.RightMkpdu.{RightMkpdu}
use Rattle.mkpdu_codec.specs.declared.spelled.Spelled.{Spelled}
use Rattle.packet_verdicts.specs.declared.given.Gift.{Gift}
use Rattle.packet_verdicts.specs.declared.kind.Kind.{Kind}
use Rattle.packet_verdicts.specs.declared.kind.Kind.TheVariants as kinds
use Rattle.packet_verdicts.specs.declared.kind.Mka.{Mka}
use Rattle.packet_verdicts.specs.declared.kind.Mka.TheVariants as mkas
use Rattle.packet_verdicts.specs.declared.kind.Sec.{Sec}
use Rattle.packet_verdicts.specs.declared.kind.Sec.TheVariants as secs
use Rattle.use_notes.specs.declared.frame.RightFrame.{RightFrame}
use Rattle.use_notes.specs.Frames.{novelty_in}
use Rattle.key_ring.specs.Rings.{Ring}
use Rattle.capture_audit.specs.Before.{Unwrapped, entries, frame_by, frames, kind_in, mkpdu_of, mkpdus, number_behind}
use Rattle.capture_audit.specs.Giving.{handed}

-- ---- protected frames

-- a frame that is right under no key
abbrev pub not_right : Option Reason → Finding
not_right (Some why) = findings.Undecided why
not_right None = findings.WrongFrame

-- a protected frame, right or not, with the reason for which nothing would be said of it
abbrev pub frame_finding : List RightFrame → Option RightFrame → Option Reason → Finding
frame_finding earlier (Some frame) why = findings.RightFrame frame (novelty_in earlier frame)
frame_finding earlier None why = not_right why

-- behind what made keys known and the right frames before: as a right frame, if it is one, at a time
abbrev pub sec_finding : List Entry → List RightFrame → Option RightFrame → ℕ → Sec → Finding
sec_finding told rights frame nanos secs.Cut = findings.SecCut
sec_finding told rights frame nanos (secs.Malformed why) = findings.Malformed why
sec_finding told rights frame nanos (secs.Protected tag check) =
    frame_finding rights frame (undecided told tag.sci tag.an nanos)

-- ---- frames of key agreement

abbrev pub right_finding : List Entry → List RightMkpdu → ℕ → ℕ → Option Gift → ℕ → Spelled → Finding
right_finding told spelled n nanos gift group s =
    findings.RightMkpdu (mkpdu_of n group s) (mkpdu_novelty spelled (mkpdu_of n group s))
    (handed told n nanos group gift)

-- behind what made keys known and the right MKPDUs before: of this number and time, with this gift
abbrev pub mka_finding : List Entry → List RightMkpdu → ℕ → ℕ → Option Gift → Mka → Finding
mka_finding told spelled n nanos gift mkas.Cut = findings.MkaCut
mka_finding told spelled n nanos gift (mkas.Dropped refusal) = findings.Dropped refusal
mka_finding told spelled n nanos gift (mkas.Unknown ckn sci gives) = findings.Unknown gives
mka_finding told spelled n nanos gift (mkas.Wrong gives) = findings.WrongMkpdu gives
mka_finding told spelled n nanos gift (mkas.Right group s) =
    right_finding told spelled n nanos gift group s

-- ---- any packet

abbrev pub finding_by : Ring → List Unwrapped → Unwrapped → Kind → Finding
finding_by ring before u kinds.Foreign = findings.Foreign
finding_by ring before u kinds.Other = findings.Other
finding_by ring before u (kinds.Sec sec) =
    sec_finding (entries ring before) (frames ring before)
    (frame_by (entries ring before) (number_behind before) u.packet (kinds.Sec sec)) u.packet.head.nanos sec
finding_by ring before u (kinds.Mka mka) =
    mka_finding (entries ring before) (mkpdus ring before) (number_behind before) u.packet.head.nanos
    u.gift mka

-- what a packet is behind others
abbrev pub finding : Ring → List Unwrapped → Unwrapped → Finding
finding ring before u = finding_by ring before u (kind_in ring u)
