-- Worked packets: which are fresh frames, which speak, and in which order events come.
use Rattle.std.specs.Prelude.{replicate}
use Rattle.std.proofs.Common.{◌≡◌, ◌*◌, ℕ, true, List, [], ◌∷◌, Option, Some, None, refl}
use Rattle.aes_block.specs.declared.secret.Secret.TheVariants.{S128}
use Rattle.known_keys.specs.declared.giving.NoSak.TheVariants.{WrongWrap}
use Rattle.lan_base.specs.declared.address.Mi.{Mi}
use Rattle.lan_base.specs.declared.address.Sci.{Sci}
use Rattle.lan_base.specs.declared.association_number.AssociationNumber.TheVariants.{An0}
use Rattle.lan_base.specs.declared.key_id.KeyId.{KeyId}
use Rattle.mark_notes.specs.declared.giving.Giving.{Giving}
use Rattle.member_notes.specs.declared.mkpdu.RightMkpdu.{RightMkpdu}
use Rattle.member_notes.specs.declared.novelty.MkpduNovelty.{MkpduNovelty}
use Rattle.member_notes.specs.declared.novelty.MkpduNovelty.TheVariants as mkpdus
use Rattle.member_notes.specs.Spoken.{Spoken}
use Rattle.mkpdu_codec.specs.declared.announcement.Announcement.{Announcement}
use Rattle.mkpdu_codec.specs.declared.offset.ConfidentialityOffset.TheVariants.{Octets0}
use Rattle.packet_verdicts.specs.declared.kind.Kind.TheVariants as kinds
use Rattle.packet_verdicts.specs.declared.kind.Mka.TheVariants as mkas
use Rattle.rollover_notes.specs.Events.{Gave, Spoke, Used}
use Rattle.use_notes.specs.declared.frame.RightFrame.{RightFrame}
use Rattle.use_notes.specs.declared.novelty.Novelty.{Novelty}
use Rattle.use_notes.specs.declared.novelty.Novelty.TheVariants.{New, Repeated, Reused}
use Rattle.audit_report.specs.declared.finding.Finding.TheVariants as findings
use Rattle.audit_report.specs.declared.finding.Handed.{Handed}
use Rattle.audit_report.specs.declared.finding.Handed.TheVariants as handeds
use Rattle.audit_facts.specs.Noted.{Noted, events, fresh_frames, givings, noted_of, reuses, spoken_of}

abbrev mi : Mi
mi = record { 0 = 7 ∷ [] }

abbrev sci : Sci
sci = record { 0 = 8 ∷ [] }

-- ---- frames under key 1, of packet number 1

abbrev frame : ℕ → RightFrame
frame packet = record {
  packet = packet;
  key = 1;
  sci = sci;
  pn = 1;
  check = [];
  time = packet * 1000;
  confidential = true;
}

abbrev used : ℕ → Novelty → Noted
used packet novelty = noted_of (findings.RightFrame (frame packet) novelty) (packet * 1000) kinds.Other

-- ---- MKPDUs of group 1

abbrev announcement : Announcement
announcement = record {
  source = record { 0 = [] };
  priority = 16;
  server = true;
  sci = sci;
  mi = mi;
  mn = 1;
  ckn = [];
  live = [];
  potential = [];
  uses = None;
  given = None;
  highs = None;
}

abbrev mkpdu : ℕ → RightMkpdu
mkpdu packet = record { packet = packet; group = 1; mi = mi; mn = 1; check = [] }

abbrev spelled : ℕ → MkpduNovelty → Option Handed → Noted
spelled packet novelty handed =
    noted_of (findings.RightMkpdu (mkpdu packet) novelty handed) (packet * 1000)
    (kinds.Mka (mkas.Right 1 (record { announcement = announcement; covered = 0; check = [] })))

abbrev spoken : ℕ → Spoken
spoken packet = record { mkpdu = mkpdu packet; nanos = packet * 1000; said = announcement }

abbrev key_id : KeyId
key_id = record { server = mi; number = 1 }

abbrev key_2 : Handed
key_2 = handeds.Key key_id An0 Octets0 (S128 (replicate 16 0))
    (record { key = 2; is_new = true; is_new_naming = true; other_name = None; other_id = None })

abbrev given : ℕ → Giving
given packet = record { key = 2; packet = packet; group = 1; id = key_id; an = An0 }

-- ---- a capture, the newest packet first

-- an MKPDU gives key 2, comes again, and a further one has fallen; then a frame, once more, and its number with
-- other octets; and one that is no frame of either kind
abbrev capture : List Noted
capture = noted_of findings.Other 7000 kinds.Other ∷ used 6 (Reused 4) ∷ used 5 (Repeated 4) ∷ used 4 New
    ∷ spelled 3 mkpdus.Fell None ∷ spelled 2 (mkpdus.Again 1) (Some key_2) ∷ spelled 1 mkpdus.New (Some key_2) ∷ []

fresh : fresh_frames capture ≡ frame 6 ∷ frame 4 ∷ []
fresh = refl

all_speak : spoken_of capture ≡ spoken 3 ∷ spoken 2 ∷ spoken 1 ∷ []
all_speak = refl

-- the first gives its key before it speaks; the second gives it again, and says nothing new
in_turn : events capture
    ≡ Used (frame 6) ∷ Used (frame 4) ∷ Gave 1 key_id 2 ∷ Spoke (spoken 1) ∷ Gave 1 key_id 2 ∷ []
in_turn = refl

-- the second MKPDU gives the key again, and one frame is reused
marked : givings capture ≡ given 2 ∷ given 1 ∷ []
marked = refl

reused : reuses capture ≡ record { packet = 6; key = 1; sci = sci; pn = 1; first = 4 } ∷ []
reused = refl

-- a key that is not taken is none
untaken : events (spelled 1 mkpdus.New (Some (handeds.Untaken key_id WrongWrap true)) ∷ []) ≡ Spoke (spoken 1) ∷ []
untaken = refl
