-- What a packet is: the first that applies.
use Rattle.std.specs.Prelude.{⊤, ◌≡◌, ◌≤◌, ℕ, ◌+◌, ◌==◌, ◌&&◌, nat_lt, is_some, Bool, true, false, if◌then◌else◌, List, length, take, Option, Some, None, Result, Ok, Err}
use Rattle.std.specs.List.{list_any, position}
use Rattle.capture_packets.specs.Packets.{Seen}
use Rattle.gcm_frames.specs.declared.tag.Tag.{Tag}
use Rattle.gcm_frames.specs.declared.tag.TagRefusal.{TagRefusal}
use Rattle.gcm_frames.specs.declared.tag.TagRefusal.TheVariants as tags
use Rattle.gcm_frames.specs.Sealed.{check_octets}
use Rattle.gcm_frames.specs.Tags.{implied_fields, is_sec, short_length_of}
use Rattle.lan_base.specs.Ranges.{most_frame_octets}
use Rattle.mkpdu_codec.specs.declared.announcement.Announcement.{Announcement}
use Rattle.mkpdu_codec.specs.declared.refusal.Refusal.{Refusal}
use Rattle.mkpdu_codec.specs.declared.refusal.Refusal.TheVariants as refusals
use Rattle.mkpdu_codec.specs.declared.spelled.Spelled.{Spelled}
use Rattle.mkpdu_codec.specs.Reading.{reading}
use Rattle.packet_verdicts.specs.declared.kind.Kind.{Kind}
use Rattle.packet_verdicts.specs.declared.kind.Kind.TheVariants as kinds
use Rattle.packet_verdicts.specs.declared.kind.Mka.{Mka}
use Rattle.packet_verdicts.specs.declared.kind.Mka.TheVariants as mkas
use Rattle.packet_verdicts.specs.declared.kind.Sec.{Sec}
use Rattle.packet_verdicts.specs.declared.kind.Sec.TheVariants as secs
use Rattle.packet_verdicts.specs.declared.kind.Malformed.TheVariants.{Long, Refused}
use Rattle.packet_verdicts.specs.Frames.{frame_of}
use Rattle.packet_verdicts.specs.Groups.{GroupKeys, gives_check, has_name}

-- ---- a frame with the EtherType of MACsec

-- a frame is refused because of where it ends
abbrev pub is_of_end : TagRefusal → Bool
is_of_end tags.Short = true
is_of_end tags.SlWrong = true
is_of_end _ = false

-- By what its SecTAG says, where the SCI may be implied. Of one that was cut, a refusal because of its end says nothing, and with a
-- short length of 0 nobody knows where it ended.
abbrev pub tagged_kind : Bool → List ℕ → Result Tag TagRefusal → Sec
tagged_kind cut frame (Ok tag) =
    if cut && (short_length_of frame == 0) then secs.Cut
    else secs.Protected tag (check_octets tag frame)
tagged_kind cut frame (Err refusal) =
    if cut && is_of_end refusal then secs.Cut else secs.Malformed (Refused refusal)

abbrev pub sec_kind : Bool → List ℕ → Sec
sec_kind cut frame =
    if nat_lt most_frame_octets (length frame) then secs.Malformed Long
    else tagged_kind cut frame (implied_fields frame)

-- ---- a frame of key agreement

-- one that is right under no group
abbrev pub strange_kind : List GroupKeys → Announcement → Mka
strange_kind groups a =
    if list_any (has_name a.ckn) groups then mkas.Wrong (is_some a.given)
    else mkas.Unknown a.ckn a.sci (is_some a.given)

-- it is of the first group under which it is right, counted from 1
abbrev pub group_kind : List GroupKeys → Spelled → Option ℕ → Mka
group_kind groups s (Some before) = mkas.Right (before + 1) s
group_kind groups s None = strange_kind groups s.announcement

-- one whose check value covers these octets
abbrev pub spelled_kind : List GroupKeys → List ℕ → Spelled → Mka
spelled_kind groups covered s = group_kind groups s (position (gives_check covered s) groups)

-- by what reading gives
abbrev pub mka_kind : List GroupKeys → Bool → List ℕ → Result Spelled Refusal → Kind
mka_kind groups cut frame (Ok s) = kinds.Mka (spelled_kind groups (take s.covered frame) s)
mka_kind groups cut frame (Err refusals.NotMka) = kinds.Other
mka_kind groups cut frame (Err refusals.Short) =
    kinds.Mka (if cut then mkas.Cut else mkas.Dropped refusals.Short)
mka_kind groups cut frame (Err refusal) = kinds.Mka (mkas.Dropped refusal)

-- ---- any frame

-- a frame of Ethernet, of which a part is missing where it was cut
abbrev pub frame_kind : List GroupKeys → Bool → List ℕ → Kind
frame_kind groups cut frame =
    if is_sec frame then kinds.Sec (sec_kind cut frame)
    else mka_kind groups cut frame (reading frame)

-- ---- a packet

-- fewer octets were kept than there were
abbrev pub is_cut : Seen → Bool
is_cut p = nat_lt (length p.octets) p.head.original

-- a packet is foreign, or what its frame is
abbrev pub packet_kind : List GroupKeys → Seen → Kind
packet_kind groups p =
    if p.head.is_ethernet then frame_kind groups (is_cut p) (frame_of p.octets) else kinds.Foreign

-- ---- what follows for who goes on with it

-- the fields of a protected frame are those of the frame, which is no longer than a frame may be
abbrev pub FitsSec : List ℕ → Sec → Type 0
FitsSec frame (secs.Protected tag check) =
    (implied_fields frame ≡ Ok tag) × (length frame ≤ most_frame_octets)
FitsSec frame _ = ⊤

-- the group of a right one is there
abbrev pub FitsMka : List GroupKeys → Mka → Type 0
FitsMka groups (mkas.Right group s) = (1 ≤ group) × (group ≤ length groups)
FitsMka groups _ = ⊤

abbrev pub Fits : List GroupKeys → List ℕ → Kind → Type 0
Fits groups frame (kinds.Sec sec) = FitsSec frame sec
Fits groups frame (kinds.Mka mka) = FitsMka groups mka
Fits groups frame _ = ⊤
