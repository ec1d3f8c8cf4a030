-- What a frame is fits the frame.
use Rattle.std.specs.Prelude.{◌&&◌, is_some, nat_lt, ◌==◌}
use Rattle.std.specs.List.{list_any, position}
use Rattle.std.proofs.Common.{◌≡◌, ℕ, ◌<◌, ◌≤◌, Bool, true, false, cond, List, [], length, take, Option, Some, None, Result, Ok, Err, refl, arith}
use Rattle.std.proofs.lemmas.List.Quantifiers.{position-Some}
use borrow.Author.Tests.{ltb-false}
use Rattle.capture_packets.specs.Packets.{Seen}
use Rattle.gcm_frames.specs.declared.tag.Tag.{Tag}
use Rattle.gcm_frames.specs.declared.tag.TagRefusal.{TagRefusal}
use Rattle.gcm_frames.specs.Sealed.{check_octets}
use Rattle.gcm_frames.specs.Tags.{implied_fields, is_sec, short_length_of}
use Rattle.lan_base.specs.Ranges.{most_frame_octets}
use Rattle.mkpdu_codec.specs.declared.refusal.Refusal.{Refusal}
use Rattle.mkpdu_codec.specs.declared.refusal.Refusal.TheVariants as refusals
use Rattle.mkpdu_codec.specs.declared.spelled.Spelled.{Spelled}
use Rattle.mkpdu_codec.specs.Reading.{reading}
use Rattle.packet_verdicts.specs.declared.kind.Kind.TheVariants as kinds
use Rattle.packet_verdicts.specs.declared.kind.Mka.TheVariants as mkas
use Rattle.packet_verdicts.specs.declared.kind.Sec.TheVariants as secs
use Rattle.packet_verdicts.specs.declared.kind.Malformed.TheVariants.{Long, Refused}
use Rattle.packet_verdicts.specs.Frames.{frame_of}
use Rattle.packet_verdicts.specs.Groups.{GroupKeys, gives_check, has_name}
use Rattle.packet_verdicts.specs.Kinds.{Fits, FitsMka, FitsSec, frame_kind, group_kind, is_cut, is_of_end, mka_kind, packet_kind, sec_kind, tagged_kind}

-- ---- protected frames

tagged-fits : (fields : Result Tag TagRefusal) (cut : Bool) (frame : List ℕ) → implied_fields frame ≡ fields
    → length frame ≤ most_frame_octets → FitsSec frame (tagged_kind cut frame fields)
tagged-fits (Ok tag) cut frame e few =
    elim (cut && (short_length_of frame == 0)) as (λ b. FitsSec frame (cond b secs.Cut (secs.Protected tag (check_octets tag frame)))) [ true ↦ tt | false ↦ (e, few) ]
tagged-fits (Err refusal) cut frame e few =
    elim (cut && is_of_end refusal) as (λ b. FitsSec frame (cond b secs.Cut (secs.Malformed (Refused refusal)))) [ true ↦ tt | false ↦ tt ]

sec-fits : (b : Bool) (cut : Bool) (frame : List ℕ) → nat_lt most_frame_octets (length frame) ≡ b
    → FitsSec frame (cond b (secs.Malformed Long) (tagged_kind cut frame (implied_fields frame)))
sec-fits true cut frame e = tt
sec-fits false cut frame e = tagged-fits (implied_fields frame) cut frame refl (ltb-false most_frame_octets (length frame) e)

-- ---- frames of key agreement

nobody : GroupKeys
nobody = record { ckn = []; kek = []; ick = [] }

group-fits : (groups : List GroupKeys) (p : GroupKeys → Bool) (s : Spelled) (found : Option ℕ)
    → position p groups ≡ found → FitsMka groups (group_kind groups s found)
group-fits groups p s (Some before) e =
    let there : before < length groups = (position-Some p groups before nobody e).0 in
    (omega arith, omega arith)
group-fits groups p s None e =
    elim (list_any (has_name s.announcement.ckn) groups) as (λ b. FitsMka groups (cond b (mkas.Wrong (is_some s.announcement.given)) (mkas.Unknown s.announcement.ckn s.announcement.sci (is_some s.announcement.given)))) [ true ↦ tt | false ↦ tt ]

mka-fits : (groups : List GroupKeys) (cut : Bool) (frame : List ℕ) (r : Result Spelled Refusal)
    → Fits groups frame (mka_kind groups cut frame r)
mka-fits groups cut frame (Ok s) = group-fits groups (gives_check (take s.covered frame) s) s (position (gives_check (take s.covered frame) s) groups) refl
mka-fits groups cut frame (Err refusals.NotMka) = tt
mka-fits groups cut frame (Err refusals.Short) =
    elim cut as (λ b. FitsMka groups (cond b mkas.Cut (mkas.Dropped refusals.Short))) [ true ↦ tt | false ↦ tt ]
mka-fits groups cut frame (Err (refusals.Shape at)) = tt
mka-fits groups cut frame (Err (refusals.Repeated kind)) = tt
mka-fits groups cut frame (Err refusals.Agility) = tt

-- ---- packets

frame-fits : (groups : List GroupKeys) (cut : Bool) (frame : List ℕ) → Fits groups frame (frame_kind groups cut frame)
frame-fits groups cut frame =
    elim (is_sec frame) as (λ b. Fits groups frame (cond b (kinds.Sec (sec_kind cut frame)) (mka_kind groups cut frame (reading frame)))) [
      | true ↦ sec-fits (nat_lt most_frame_octets (length frame)) cut frame refl
      | false ↦ mka-fits groups cut frame (reading frame)
    ]

pub packet-fits : (groups : List GroupKeys) (p : Seen) → Fits groups (frame_of p.octets) (packet_kind groups p)
packet-fits groups p =
    elim p.head.is_ethernet as (λ b. Fits groups (frame_of p.octets) (cond b (frame_kind groups (is_cut p) (frame_of p.octets)) kinds.Foreign)) [
      | true ↦ frame-fits groups (is_cut p) (frame_of p.octets)
      | false ↦ tt
    ]
