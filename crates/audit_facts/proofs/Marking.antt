-- A fresh right frame is behind all packets that were reused.
use Rattle.std.proofs.Common.{◌≤◌, ℕ, List, [], ◌∷◌, ◌++◌, refl, arith}
use Rattle.std.specs.Prelude.{All, Option}
use Rattle.std.proofs.lemmas.List.Elements.{All-cons, All-nil}
use Rattle.audit_report.specs.declared.finding.Finding.{Finding}
use Rattle.audit_report.specs.declared.finding.Finding.TheVariants as findings
use Rattle.mark_notes.specs.declared.reuse.Reuse.{Reuse}
use Rattle.mkpdu_codec.specs.declared.announcement.Announcement.{Announcement}
use Rattle.use_notes.specs.Frames.{IsBehind}
use Rattle.use_notes.specs.declared.novelty.Novelty.TheVariants.{New, Repeated, Reused}
use Rattle.audit_facts.specs.Noted.{IsNextBy, Noted, fresh_frame, fresh_frames, reuses, reuses_by}
use Rattle.audit_facts.specs.inside.Marking.{IsBehindReuses}

abbrev IsUpTo : ℕ → Reuse → Type 0
IsUpTo packet = λ r. r.packet ≤ packet

-- what a packet is behind all fresh frames is behind all reused ones
up-to : (packet : ℕ) (h : List Noted) → IsBehind packet (fresh_frames h) → All (IsUpTo packet) (reuses h)
up-to packet [] behind = All-nil (IsUpTo packet)
up-to packet (n ∷ h) behind = go n.finding (up-to packet h) behind
  where
    go : (f : Finding) → (IsBehind packet (fresh_frames h) → All (IsUpTo packet) (reuses h))
        → IsBehind packet (fresh_frame f ++ fresh_frames h) → All (IsUpTo packet) (reuses_by f ++ reuses h)
    go (findings.RightFrame frame New) later b = later b.1
    go (findings.RightFrame frame (Repeated first)) later b = later b
    go (findings.RightFrame frame (Reused first)) later b =
        let near : frame.packet ≤ packet = omega (arith, b.0) in
        All-cons (IsUpTo packet)
        (record { packet = frame.packet; key = frame.key; sci = frame.sci; pn = frame.pn; first = first }) (reuses h) near
        (later b.1)
    go _ later b = later b

pub is-behind : (h : List Noted) (f : Finding) (nanos : ℕ) (said : Option Announcement) → IsNextBy h f nanos said
    → IsBehindReuses (reuses h) f
is-behind h (findings.RightFrame frame (Reused first)) nanos said next = up-to frame.packet h (next refl).0
is-behind h _ nanos said next = tt
