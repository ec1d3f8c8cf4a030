-- What a clean audit of a run's capture says.
use Rattle.std.specs.Prelude.{◌≡◌, ℕ, true, List, [], ◌∷◌, map, All, Contains, is_some, Some, None, Ok}
use Rattle.aes_block.specs.Secrets.{secret_octets}
use Rattle.audit_report.specs.declared.finding.Finding.{Finding}
use Rattle.audit_report.specs.declared.finding.Finding.TheVariants as findings
use Rattle.audit_report.specs.Verdicts.{Verdict}
use Rattle.capture_audit.specs.Before.{entries, IsUnwrapped, Unwrapped}
use Rattle.capture_audit.specs.Findings.{finding}
use Rattle.gcm_frames.specs.declared.tag.Tag.{Tag}
use Rattle.gcm_frames.specs.Sealed.{opened}
use Rattle.gcm_frames.specs.Tags.{implied_fields}
use Rattle.group_safety.specs.Once.{Use, use_of}
use Rattle.key_ring.specs.Rings.{Ring}
use Rattle.known_keys.specs.History.{Entry, keys}
use Rattle.lan_core.specs.Ledgers.{Claim, claims, Frame, air, Install, installs}
use Rattle.lan_core.specs.declared.settings.Settings.{Settings}
use Rattle.lan_core.specs.Run.{Run}
use Rattle.member_notes.specs.declared.novelty.MkpduNovelty.TheVariants as mkpdus
use Rattle.packet_verdicts.specs.Right.{key_numbered}
use Rattle.use_notes.specs.declared.frame.RightFrame.{RightFrame}
use Rattle.use_notes.specs.declared.novelty.Novelty.TheVariants as frames
use Rattle.clean_audits.specs.Captured.{group_ring, IsPacketOf}

-- ---- premises

-- the key of an install opens a frame
abbrev pub Opens : Install → Tag → List ℕ → Type 0
Opens i tag octets = is_some (opened (secret_octets i.sak) tag octets) ≡ true

-- of the keys of a run no two open one protected frame of it
abbrev pub IsSealedOnce : Run → Type 0
IsSealedOnce r = (frame : Frame) (tag : Tag) (i j : Install) → Contains (air r) frame → frame.sec ≡ true
    → implied_fields frame.octets ≡ Ok tag → Contains (installs r) i → Contains (installs r) j
    → Opens i tag frame.octets → Opens j tag frame.octets → i.sak ≡ j.sak

-- packets are frames in their order, both newest first
abbrev pub AreCaptured : List Frame → List Unwrapped → Type 0
AreCaptured [] [] = Unit {0}
AreCaptured (frame ∷ earlier) (u ∷ before) = IsPacketOf frame u.packet × AreCaptured earlier before
AreCaptured _ _ = ⊥

-- a capture of frames, in which what each MKPDU gives is unwrapped
pub record HasCapture (settings : Settings) (fs : List Frame) : Type 0 where
  pub packets : List Unwrapped
  pub captured : AreCaptured fs packets
  pub unwrapped : All (IsUnwrapped (group_ring settings)) packets

-- ---- what is found

-- an MKPDU or a protected frame that is right and new
abbrev pub IsRightAndNew : Finding → Type 0
IsRightAndNew (findings.RightMkpdu mkpdu novelty handed) = novelty ≡ mkpdus.New
IsRightAndNew (findings.RightFrame frame novelty) = novelty ≡ frames.New
IsRightAndNew _ = ⊥

-- each packet is one, behind those before it
abbrev pub AreRightAndNew : Ring → List Unwrapped → Type 0
AreRightAndNew ring [] = Unit {0}
AreRightAndNew ring (u ∷ before) =
    IsRightAndNew (finding ring before u) × AreRightAndNew ring before

-- and no pair breaks, and no member gave a key with a number below one that it gave before
pub record IsClean (ring : Ring) (packets : List Unwrapped) (v : Verdict) : Type 0 where
  pub found : AreRightAndNew ring packets
  pub once : v.once ≡ None
  pub one_key : v.one_key ≡ None
  pub returned : All (λ m. m.counts.returned.count ≡ 0) v.members

-- ---- whose a right frame is

-- what a right frame uses: a packet number, under the SAK that has its key's number, with an SCI
abbrev pub used_by : List Entry → RightFrame → Use
used_by told e = record {
  sak = key_numbered (map secret_octets (keys told)) e.key;
  sci = Some e.sci;
  pn = e.pn;
}

-- it is what a claim of the run uses
pub record IsClaimed (r : Run) (ring : Ring) (packets : List Unwrapped) (e : RightFrame) : Type 0 where
  pub claim : Claim
  pub there : Contains (claims r) claim
  pub uses : use_of r claim ≡ used_by (entries ring packets) e
