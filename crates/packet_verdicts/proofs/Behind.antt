-- The check value of a frame that spells an announcement stands behind what it covers.
use Rattle.std.proofs.Common.{◌≡◌, ◌∙◌, ℕ, List, ◌++◌, take, drop, sym, ap}
use Rattle.mkpdu_codec.specs.declared.announcement.Announcement.{Announcement}
use Rattle.mkpdu_codec.specs.Frames.{Frame, Spells, covered_octets}
use Rattle.packet_verdicts.proofs.Moved.{behind_front}
use Rattle.packet_verdicts.proofs.Tagged.{front}

pub check-behind : (frame check : List ℕ) (a : Announcement) (covered : ℕ) → Spells frame a covered check
    → check ≡ take 16 (drop covered frame)
check-behind frame check a covered sp =
    let f : Frame = sp.parts in
    let dropped : drop covered frame ≡ f.check ++ f.behind =
    ap (λ xs. drop covered xs) sp.whole ∙ behind_front (covered_octets f) (f.check ++ f.behind) covered (sym sp.covers) in
    sp.checked ∙ sym (ap (λ xs. take 16 xs) dropped ∙ front f.check f.behind 16 sp.is_frame.check)
