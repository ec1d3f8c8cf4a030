-- The definitions, computed.
use Rattle.std.proofs.Common.{◌≡◌, ℕ, List, [], ◌∷◌, ◌++◌, replicate, true, false, Some, None, refl}
use Rattle.lan_base.specs.declared.association_number.AssociationNumber.TheVariants.{An0}
use Rattle.gcm_frames.specs.declared.tag.Tag.{Tag}
use Rattle.gcm_frames.specs.declared.tag.TagRefusal.TheVariants.{NotSec, Version, Mode, Short, SlWrong}
use Rattle.gcm_frames.specs.Protected.{xpn_iv}
use Rattle.gcm_frames.specs.Sealed.{additional_data, behind_clear, check_octets, enciphered}
use Rattle.gcm_frames.specs.Written.{tag_written}
use Rattle.gcm_frames.specs.Tags.{implied_refused, refused, sci_of}

-- addresses and the EtherType of MACsec, the octet of control information, the short length, and more octets
abbrev frame : ℕ → ℕ → ℕ → List ℕ
frame control short more = replicate 12 0 ++ 0x88 ∷ 0xe5 ∷ control ∷ short ∷ replicate more 7

too_short_for_a_type : refused (replicate 12 0 ++ 0x88 ∷ []) ≡ Some NotSec
too_short_for_a_type = refl

another_type : refused (replicate 12 0 ++ 0x88 ∷ 0x8e ∷ replicate 90 7) ≡ Some NotSec
another_type = refl

nothing_behind_the_type : refused (replicate 12 0 ++ 0x88 ∷ 0xe5 ∷ []) ≡ Some Short
nothing_behind_the_type = refl

-- the version is tried before the mode, and the mode before the length
a_version_alone : refused (replicate 12 0 ++ 0x88 ∷ 0xe5 ∷ 0x90 ∷ []) ≡ Some Version
a_version_alone = refl

a_broadcast_alone : refused (replicate 12 0 ++ 0x88 ∷ 0xe5 ∷ 0x30 ∷ []) ≡ Some Mode
a_broadcast_alone = refl

an_sci_twice : refused (frame 0x60 47 80) ≡ Some Mode
an_sci_twice = refl

no_sci : refused (frame 0x00 47 80) ≡ Some Mode
no_sci = refl

-- unless it may be implied, which an SCI that is given twice isn't
an_implied_sci : implied_refused (frame 0x0c 47 67) ≡ None
an_implied_sci = refl

an_sci_twice_is_not_implied : implied_refused (frame 0x60 47 80) ≡ Some Mode
an_sci_twice_is_not_implied = refl

a_broadcast_from_an_end_station : implied_refused (frame 0x5c 47 67) ≡ None
a_broadcast_from_an_end_station = refl

-- a broadcast is sealed with the sender's own SCI, of port 1
the_sender_of_a_broadcast : sci_of (frame 0x1c 47 67) ≡ record { 0 = replicate 6 0 ++ 0 ∷ 1 ∷ [] }
the_sender_of_a_broadcast = refl

a_broadcast_with_an_sci : implied_refused (frame 0x3c 47 80) ≡ Some Mode
a_broadcast_with_an_sci = refl

one_octet_missing_behind_an_implied_sci : implied_refused (frame 0x0c 47 66) ≡ Some Short
one_octet_missing_behind_an_implied_sci = refl

enciphered_and_not_changed : refused (frame 0x28 47 80) ≡ Some Mode
enciphered_and_not_changed = refl

changed_and_not_enciphered : refused (frame 0x24 47 80) ≡ Some Mode
changed_and_not_enciphered = refl

-- 12 octets more of SecTAG, 47 of secure data, and 16 of tag
whole : refused (frame 0x2c 47 75) ≡ None
whole = refl

one_octet_missing : refused (frame 0x2c 47 74) ≡ Some Short
one_octet_missing = refl

-- without an SCI the SecTAG has 8 octets fewer
whole_without_sci : refused (frame 0x4c 47 67) ≡ None
whole_without_sci = refl

further_octets : refused (frame 0x2c 47 200) ≡ None
further_octets = refl

-- a short length of 48 is no length, and is tried after the frame's
a_short_length_of_48 : refused (frame 0x2c 48 76) ≡ Some SlWrong
a_short_length_of_48 = refl

a_short_length_of_48_in_a_short_frame : refused (frame 0x2c 48 75) ≡ Some Short
a_short_length_of_48_in_a_short_frame = refl

-- no short length, and 48 octets of secure data, or 47
no_short_length : refused (frame 0x2c 0 76) ≡ None
no_short_length = refl

no_short_length_for_47 : refused (frame 0x2c 0 75) ≡ Some SlWrong
no_short_length_for_47 = refl

no_tag : refused (frame 0x2c 0 27) ≡ Some Short
no_tag = refl

-- ---- IVs with extended packet numbers

abbrev salt : List ℕ
salt = 0xa0 ∷ 0xa1 ∷ 0xa2 ∷ 0xa3 ∷ 0xa4 ∷ 0xa5 ∷ 0xa6 ∷ 0xa7 ∷ 0xa8 ∷ 0xa9 ∷ 0xaa ∷ 0xab ∷ []

packet_1 : xpn_iv salt 7 1 ≡ 0xa0 ∷ 0xa1 ∷ 0xa2 ∷ 0xa4 ∷ 0xa4 ∷ 0xa5 ∷ 0xa6 ∷ 0xa7 ∷ 0xa8 ∷ 0xa9 ∷ 0xaa ∷ 0xaa ∷ []
packet_1 = refl

-- one lap later
packet_4294967297 : xpn_iv salt 7 4294967297 ≡ 0xa0 ∷ 0xa1 ∷ 0xa2 ∷ 0xa4 ∷ 0xa4 ∷ 0xa5 ∷ 0xa6 ∷ 0xa6 ∷ 0xa8 ∷ 0xa9 ∷ 0xaa ∷ 0xaa ∷ []
packet_4294967297 = refl

-- that of a published vector of 128 bits (IEEE Std 802.1AEbw, annex C.1)
published : xpn_iv (0xe6 ∷ 0x30 ∷ 0xe8 ∷ 0x1a ∷ 0x48 ∷ 0xde ∷ 0x86 ∷ 0xa2 ∷ 0x1c ∷ 0x66 ∷ 0xfa ∷ 0x6d ∷ []) 0x7a30c118 0xb0df459cb2c28465
    ≡ 0x9c ∷ 0x00 ∷ 0x29 ∷ 0x02 ∷ 0xf8 ∷ 0x01 ∷ 0xc3 ∷ 0x3e ∷ 0xae ∷ 0xa4 ∷ 0x7e ∷ 0x08 ∷ []
published = refl

-- ---- octets in clear

abbrev enciphered_tag : Tag
enciphered_tag = tag_written (record { 0 = 2 ∷ 0 ∷ 0 ∷ 0 ∷ 0 ∷ 0x0a ∷ 0 ∷ 1 ∷ [] }) An0 1 true (record { destination = record { 0 = replicate 6 1 }; body = replicate 46 9 })

abbrev secured : List ℕ
secured = replicate 28 1 ++ (replicate 30 2 ++ (replicate 16 3 ++ replicate 16 4))

thirty_in_clear : additional_data (behind_clear 30 enciphered_tag) secured ≡ replicate 28 1 ++ replicate 30 2
thirty_in_clear = refl

sixteen_enciphered : enciphered (behind_clear 30 enciphered_tag) secured ≡ replicate 16 3
sixteen_enciphered = refl

-- user data that is shorter is all in clear
all_in_clear : additional_data (behind_clear 50 enciphered_tag) secured ≡ replicate 28 1 ++ (replicate 30 2 ++ replicate 16 3)
all_in_clear = refl

none_enciphered : enciphered (behind_clear 50 enciphered_tag) secured ≡ []
none_enciphered = refl

-- the tag stands where it stands
the_same_check : check_octets (behind_clear 50 enciphered_tag) secured ≡ replicate 16 4
the_same_check = refl

-- where nothing is enciphered an offset changes nothing
nothing_moved : behind_clear 30 (record enciphered_tag { conf = false }) ≡ record enciphered_tag { conf = false }
nothing_moved = refl
