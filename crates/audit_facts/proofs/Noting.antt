-- What is held behind a right MKPDU more.
use Rattle.std.proofs.Common.{ℕ, List, ◌∷◌, ◌++◌, append_assoc, sym, subst}
use Rattle.std.specs.Prelude.{Option}
use Rattle.audit_report.specs.declared.finding.Finding.TheVariants as findings
use Rattle.audit_report.specs.declared.finding.Handed.{Handed}
use Rattle.member_notes.specs.declared.mkpdu.RightMkpdu.{RightMkpdu}
use Rattle.member_notes.specs.declared.novelty.MkpduNovelty.{MkpduNovelty}
use Rattle.mkpdu_codec.specs.declared.announcement.Announcement.{Announcement}
use Rattle.rollover_notes.specs.Events.{Event}
use Rattle.audit_facts.specs.Noted.{Noted, events, fresh_frames, given_in, spoke_in, spoken_by, spoken_of}
use Rattle.audit_facts.specs.Standing.{Holds, Told, ToldStandFor}

pub heard : (h : List Noted) (nanos : ℕ) (said : Option Announcement) (unknown : Option (List ℕ)) (kept : Told)
    → (mkpdu : RightMkpdu) (novelty : MkpduNovelty) (handed : Option Handed)
    → Holds (fresh_frames h) (spoken_by mkpdu nanos said ++ spoken_of h)
    (spoke_in mkpdu novelty nanos said ++ (given_in mkpdu.group handed ++ events h)) kept
    → ToldStandFor (record { finding = findings.RightMkpdu mkpdu novelty handed; nanos = nanos; said = said; unknown = unknown } ∷ h) kept
heard h nanos said unknown kept mkpdu novelty handed holds =
    subst (λ (es : List Event). Holds (fresh_frames h) (spoken_by mkpdu nanos said ++ spoken_of h) es kept)
    (sym (append_assoc (spoke_in mkpdu novelty nanos said) (given_in mkpdu.group handed) (events h))) holds
