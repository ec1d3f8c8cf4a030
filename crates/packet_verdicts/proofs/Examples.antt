-- The definitions at worked packets.
use Rattle.std.specs.Prelude.{replicate}
use Rattle.std.proofs.Common.{◌≡◌, ℕ, Bool, true, false, List, [], ◌∷◌, ◌++◌, Some, None, refl}
use Rattle.gcm_frames.specs.declared.tag.TagRefusal.TheVariants as tags
use Rattle.gcm_frames.specs.Tags.{implied_fields}
use Rattle.gcm_frames.specs.declared.tag.Tag.{Tag}
use Rattle.mkpdu_codec.specs.declared.key_use.KeyUse.{KeyUse}
use Rattle.packet_verdicts.specs.Given.{shown_key}
use Rattle.packet_verdicts.specs.Right.{newest_right}
use Rattle.lan_base.specs.declared.association_number.AssociationNumber.TheVariants.{An0, An1}
use Rattle.mkpdu_codec.specs.declared.refusal.Refusal.TheVariants as refusals
use Rattle.mkpdu_codec.specs.Reading.{parts_at, reading}
use Rattle.capture_packets.specs.Packets.{Seen}
use Rattle.packet_verdicts.specs.declared.kind.Kind.{Kind}
use Rattle.packet_verdicts.specs.declared.kind.Kind.TheVariants as kinds
use Rattle.packet_verdicts.specs.declared.kind.Mka.TheVariants as mkas
use Rattle.packet_verdicts.specs.declared.kind.Sec.TheVariants as secs
use Rattle.packet_verdicts.specs.declared.kind.Malformed.TheVariants.{Refused}
use Rattle.packet_verdicts.specs.Frames.{frame_of}
use Rattle.packet_verdicts.specs.Kinds.{packet_kind}

-- ---- frames

abbrev addresses : List ℕ
addresses = 1 ∷ 2 ∷ 3 ∷ 4 ∷ 5 ∷ 6 ∷ 7 ∷ 8 ∷ 9 ∷ 10 ∷ 11 ∷ 12 ∷ []

abbrev tag : List ℕ
tag = 0x81 ∷ 0x00 ∷ 0x00 ∷ 0x05 ∷ []

abbrev service_tag : List ℕ
service_tag = 0x88 ∷ 0xa8 ∷ 0x00 ∷ 0x07 ∷ []

abbrev user : List ℕ
user = 0x88 ∷ 0xb5 ∷ 0x01 ∷ []

untagged : frame_of (addresses ++ user) ≡ addresses ++ user
untagged = refl

one_tag : frame_of (addresses ++ (tag ++ user)) ≡ addresses ++ user
one_tag = refl

two_tags : frame_of (addresses ++ (service_tag ++ (tag ++ user))) ≡ addresses ++ user
two_tags = refl

-- a third tag is what the frame begins with
three_tags : frame_of (addresses ++ (tag ++ (tag ++ (tag ++ user)))) ≡ addresses ++ (tag ++ user)
three_tags = refl

-- a tag elsewhere is none
later_tag : frame_of (addresses ++ (user ++ tag)) ≡ addresses ++ (user ++ tag)
later_tag = refl

-- a tag that isn't there whole is none
cut_tag : frame_of (addresses ++ (0x81 ∷ 0x00 ∷ 0x00 ∷ [])) ≡ addresses ++ (0x81 ∷ 0x00 ∷ 0x00 ∷ [])
cut_tag = refl

cut_addresses : frame_of (1 ∷ 2 ∷ []) ≡ 1 ∷ 2 ∷ []
cut_addresses = refl

-- ---- kinds, where no group is known

abbrev packet : List ℕ → ℕ → Bool → Seen
packet octets original ethernet = record {
  octets = octets;
  head = record { original = original; nanos = 0; is_ethernet = ethernet; is_untimed = false };
}

foreign : packet_kind [] (packet (addresses ++ user) 15 false) ≡ kinds.Foreign
foreign = refl

other : packet_kind [] (packet (addresses ++ user) 15 true) ≡ kinds.Other
unfolding reading parts_at
other = refl

-- a SecTAG with an SCI: control information, short length, packet number 9, SCI
abbrev sec_tag : ℕ → ℕ → List ℕ
sec_tag control short =
    0x88 ∷ 0xe5 ∷ control ∷ short ∷ 0 ∷ 0 ∷ 0 ∷ 9 ∷ 21 ∷ 22 ∷ 23 ∷ 24 ∷ 25 ∷ 26 ∷ 0 ∷ 1 ∷ []

-- of two octets of user user and a tag that is not a right one
abbrev short_frame : List ℕ
short_frame = addresses ++ (sec_tag 0x2d 2 ++ (0x88 ∷ 0xb5 ∷ replicate 16 7))

abbrev protected : Kind
protected = kinds.Sec (secs.Protected (record {
  sci = record { 0 = 21 ∷ 22 ∷ 23 ∷ 24 ∷ 25 ∷ 26 ∷ 0 ∷ 1 ∷ [] };
  an = An1;
  pn = 9;
  conf = true;
  start = 28;
  len = 2;
}) (replicate 16 7))

whole_sec : packet_kind [] (packet short_frame 46 true) ≡ protected
unfolding implied_fields
whole_sec = refl

-- neither ES nor SC is set: its address with port 1 is the sender
implied_sec : packet_kind [] (packet (addresses ++ (0x88 ∷ 0xe5 ∷ 0x0d ∷ 2 ∷ 0 ∷ 0 ∷ 0 ∷ 9 ∷ 0x88 ∷ 0xb5 ∷ replicate 16 7)) 38 true)
    ≡ kinds.Sec (secs.Protected (record {
      sci = record { 0 = 7 ∷ 8 ∷ 9 ∷ 10 ∷ 11 ∷ 12 ∷ 0 ∷ 1 ∷ [] };
      an = An1;
      pn = 9;
      conf = true;
      start = 20;
      len = 2;
    }) (replicate 16 7))
unfolding implied_fields
implied_sec = refl

-- padding is no part of it, nor is a VLAN tag
padded_sec : packet_kind [] (packet (addresses ++ (tag ++ (sec_tag 0x2d 2 ++ (0x88 ∷ 0xb5 ∷ (replicate 16 7 ++ replicate 14 0))))) 64 true) ≡ protected
unfolding implied_fields
padded_sec = refl

-- its padding was not kept
kept_sec : packet_kind [] (packet short_frame 60 true) ≡ protected
unfolding implied_fields
kept_sec = refl

-- two octets of the tag are missing: they were not kept, or were never there
cut_sec : packet_kind [] (packet (addresses ++ (sec_tag 0x2d 2 ++ (0x88 ∷ 0xb5 ∷ replicate 14 7))) 46 true) ≡ kinds.Sec secs.Cut
unfolding implied_fields
cut_sec = refl

short_sec : packet_kind [] (packet (addresses ++ (sec_tag 0x2d 2 ++ (0x88 ∷ 0xb5 ∷ replicate 14 7))) 44 true)
    ≡ kinds.Sec (secs.Malformed (Refused tags.Short))
unfolding implied_fields
short_sec = refl

-- a short length of 0 of a frame that was cut: 64 octets are there, and more were
open_sec : packet_kind [] (packet (addresses ++ (sec_tag 0x2d 0 ++ replicate 64 7)) 93 true) ≡ kinds.Sec secs.Cut
unfolding implied_fields
open_sec = refl

-- another version is one also where it was cut
version_sec : packet_kind [] (packet (addresses ++ sec_tag 0xad 2) 46 true) ≡ kinds.Sec (secs.Malformed (Refused tags.Version))
unfolding implied_fields
version_sec = refl

-- ---- frames of key agreement that are cut or dropped

-- destination, source, EtherType, version 3, packet type 5, and how long the body is
abbrev header : ℕ → List ℕ
header body = 1 ∷ 128 ∷ 194 ∷ 0 ∷ 0 ∷ 3 ∷ 2 ∷ 0 ∷ 0 ∷ 0 ∷ 0 ∷ 10 ∷ 0x88 ∷ 0x8e ∷ 3 ∷ 5 ∷ 0 ∷ body ∷ []

cut_mka : packet_kind [] (packet (header 80) 98 true) ≡ kinds.Mka mkas.Cut
unfolding reading parts_at
cut_mka = refl

short_mka : packet_kind [] (packet (header 80) 18 true) ≡ kinds.Mka (mkas.Dropped refusals.Short)
unfolding reading parts_at
short_mka = refl

-- ---- keys that are shown, and keys that are tried

abbrev use_of : Bool → Bool → KeyUse
use_of tx rx = record { server = record { 0 = replicate 12 1 }; number = 3; an = An0; tx = tx; rx = rx; lowest = 1 }

shown_with_rx : shown_key (use_of false true) ≡ Some (record {
  id = record { server = record { 0 = replicate 12 1 }; number = 3 };
  an = An0;
  tx = false;
  rx = true;
})
shown_with_rx = refl

not_shown : shown_key (use_of false false) ≡ None
not_shown = refl

-- there is no key 0, and none behind the last
no_key : (fields : Tag) (frame : List ℕ) → newest_right [] fields frame (1 ∷ 0 ∷ []) ≡ None
no_key fields frame = refl
