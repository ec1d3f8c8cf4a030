-- Packets of a capture, newest first, as far as they tell of changes of key, of members, and of who was
-- ready for a key, and as far as a picture marks them.
use Rattle.std.specs.Prelude.{⊤, ◌≡◌, ℕ, true, if◌then◌else◌, List, [], ◌∷◌, ◌++◌, flat_map, map, Option, Some, None}
use Rattle.audit_report.specs.declared.finding.Finding.{Finding}
use Rattle.audit_report.specs.declared.finding.Finding.TheVariants as findings
use Rattle.audit_report.specs.declared.finding.Handed.{Handed}
use Rattle.audit_report.specs.declared.finding.Handed.TheVariants as handeds
use Rattle.mark_notes.specs.declared.giving.Giving.{Giving}
use Rattle.mark_notes.specs.declared.reuse.Reuse.{Reuse}
use Rattle.member_notes.specs.Facts.{new_mkpdu, novelty_behind, spoken}
use Rattle.member_notes.specs.Spoken.{Spoken}
use Rattle.member_notes.specs.declared.mkpdu.RightMkpdu.{RightMkpdu}
use Rattle.member_notes.specs.declared.novelty.MkpduNovelty.{MkpduNovelty}
use Rattle.mkpdu_codec.specs.declared.announcement.Announcement.{Announcement}
use Rattle.packet_verdicts.specs.declared.kind.Kind.{Kind}
use Rattle.packet_verdicts.specs.declared.kind.Kind.TheVariants as kinds
use Rattle.packet_verdicts.specs.declared.kind.Mka.{Mka}
use Rattle.packet_verdicts.specs.declared.kind.Mka.TheVariants as mkas
use Rattle.rollover_notes.specs.Events.{Event, Gave, Spoke, Used}
use Rattle.use_notes.specs.Frames.{AreInOrder, is_fresh}
use Rattle.use_notes.specs.declared.frame.RightFrame.{RightFrame}
use Rattle.use_notes.specs.declared.novelty.Novelty.{Novelty}
use Rattle.use_notes.specs.declared.novelty.Novelty.TheVariants.{Reused}

-- of a packet: what it is behind the ones before it, its time in nanoseconds, and what it says, if it is
-- a right MKPDU; of an MKPDU of a name that no group has, that name
pub record Noted : Type 0 where
  pub finding : Finding
  pub nanos : ℕ
  pub said : Option Announcement
  pub unknown : Option (List ℕ)

abbrev pub said_in : Mka → Option Announcement
said_in (mkas.Right group s) = Some s.announcement
said_in _ = None

abbrev pub said_by : Kind → Option Announcement
said_by (kinds.Mka mka) = said_in mka
said_by _ = None

abbrev pub unknown_in : Mka → Option (List ℕ)
unknown_in (mkas.Unknown ckn sci gives) = Some ckn
unknown_in _ = None

abbrev pub unknown_by : Kind → Option (List ℕ)
unknown_by (kinds.Mka mka) = unknown_in mka
unknown_by _ = None

-- a packet of this kind
abbrev pub noted_of : Finding → ℕ → Kind → Noted
noted_of finding nanos kind =
    record { finding = finding; nanos = nanos; said = said_by kind; unknown = unknown_by kind }

-- ---- names that no group has

abbrev pub unknown_names : List Noted → List (Option (List ℕ))
unknown_names h = map (λ n. n.unknown) h

-- ---- fresh right frames

-- that of a packet: a repetition is none
abbrev pub fresh_frame : Finding → List RightFrame
fresh_frame (findings.RightFrame frame novelty) = if is_fresh novelty then frame ∷ [] else []
fresh_frame _ = []

abbrev pub fresh_frames : List Noted → List RightFrame
fresh_frames h = flat_map (λ n. fresh_frame n.finding) h

-- ---- right MKPDUs with what they say

abbrev pub spoken_by : RightMkpdu → ℕ → Option Announcement → List Spoken
spoken_by mkpdu nanos None = []
spoken_by mkpdu nanos (Some said) = spoken mkpdu nanos said ∷ []

abbrev pub spoken_in : Finding → ℕ → Option Announcement → List Spoken
spoken_in (findings.RightMkpdu mkpdu novelty handed) nanos said = spoken_by mkpdu nanos said
spoken_in _ nanos said = []

abbrev pub spoken_of : List Noted → List Spoken
spoken_of h = flat_map (λ n. spoken_in n.finding n.nanos n.said) h

-- ---- what is told of who is ready for a key

-- a key that is handed over in a group
abbrev pub given_in : ℕ → Option Handed → List Event
given_in group (Some (handeds.Key id an offset sak told)) = Gave group id told.key ∷ []
given_in group _ = []

-- one that is new speaks
abbrev pub spoke_in : RightMkpdu → MkpduNovelty → ℕ → Option Announcement → List Event
spoke_in mkpdu novelty nanos None = []
spoke_in mkpdu novelty nanos (Some said) =
    if new_mkpdu novelty then Spoke (spoken mkpdu nanos said) ∷ [] else []

-- newest first: a key is given before the MKPDU that gives it speaks
abbrev pub events_in : Finding → ℕ → Option Announcement → List Event
events_in (findings.RightFrame frame novelty) nanos said = if is_fresh novelty then Used frame ∷ [] else []
events_in (findings.RightMkpdu mkpdu novelty handed) nanos said =
    spoke_in mkpdu novelty nanos said ++ given_in mkpdu.group handed
events_in _ nanos said = []

abbrev pub events : List Noted → List Event
events h = flat_map (λ n. events_in n.finding n.nanos n.said) h

-- ---- what is marked

-- the key that an MKPDU hands over
abbrev pub giving_in : RightMkpdu → Option Handed → List Giving
giving_in mkpdu (Some (handeds.Key id an offset sak told)) =
    record { key = told.key; packet = mkpdu.packet; group = mkpdu.group; id = id; an = an } ∷ []
giving_in mkpdu _ = []

abbrev pub givings_by : Finding → List Giving
givings_by (findings.RightMkpdu mkpdu novelty handed) = giving_in mkpdu handed
givings_by _ = []

abbrev pub givings : List Noted → List Giving
givings h = flat_map (λ n. givings_by n.finding) h

-- a frame that uses the packet number of an earlier one again
abbrev pub reuse_in : RightFrame → Novelty → List Reuse
reuse_in frame (Reused first) =
    record { packet = frame.packet; key = frame.key; sci = frame.sci; pn = frame.pn; first = first } ∷ []
reuse_in frame _ = []

abbrev pub reuses_by : Finding → List Reuse
reuses_by (findings.RightFrame frame novelty) = reuse_in frame novelty
reuses_by _ = []

abbrev pub reuses : List Noted → List Reuse
reuses h = flat_map (λ n. reuses_by n.finding) h

-- ---- what a further packet is to show

-- one that says something is what it is behind the MKPDUs before it
abbrev pub IsToldBehind : List Spoken → RightMkpdu → MkpduNovelty → ℕ → Option Announcement → Type 0
IsToldBehind before mkpdu novelty nanos None = ⊤
IsToldBehind before mkpdu novelty nanos (Some said) = novelty ≡ novelty_behind before (spoken mkpdu nanos said)

abbrev pub IsNextBy : List Noted → Finding → ℕ → Option Announcement → Type 0
IsNextBy h (findings.RightFrame frame novelty) nanos said =
    is_fresh novelty ≡ true → AreInOrder (frame ∷ fresh_frames h)
IsNextBy h (findings.RightMkpdu mkpdu novelty handed) nanos said =
    IsToldBehind (spoken_of h) mkpdu novelty nanos said
IsNextBy h _ nanos said = ⊤

-- a fresh right frame stands behind those before it; a right MKPDU is what it is behind those before it
abbrev pub IsNext : List Noted → Noted → Type 0
IsNext h n = IsNextBy h n.finding n.nanos n.said
