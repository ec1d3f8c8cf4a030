-- What a received frame says of itself, and the first reason for which it is no protected frame
-- (IEEE Std 802.1AE, clause 9).
use Rattle.std.specs.Prelude.{ℕ, ◌+◌, ◌-◌, ◌/◌, ◌%◌, ◌==◌, Bool, true, false, not, ◌&&◌, ◌||◌, nat_le, nat_lt, if◌then◌else◌, List, [], ◌∷◌, ◌++◌, length, take, drop, slice_index, codes, Option, Some, None, Result, Ok, Err}
use Rattle.byteorder.specs.Endian.{big_number}
use Rattle.lan_base.specs.AssociationNumbers.{of_bits}
use Rattle.lan_base.specs.declared.association_number.AssociationNumber.{AssociationNumber}
use Rattle.lan_base.specs.declared.address.Sci.{Sci}
use Rattle.gcm_frames.specs.Protected.{least_long}
use Rattle.gcm_frames.specs.declared.tag.Tag.{Tag}
use Rattle.gcm_frames.specs.declared.tag.TagRefusal.{TagRefusal}
use Rattle.gcm_frames.specs.declared.tag.TagRefusal.TheVariants.{NotSec, Version, Mode, Short, SlWrong}

-- octet 14, which has the flags and, in its last two bits, the association number
abbrev pub control_of : List ℕ → ℕ
control_of frame = slice_index frame 14

-- whether octet 14 has a flag, which is a power of two
abbrev pub has_flag : ℕ → List ℕ → Bool
has_flag flag frame = control_of frame / flag % 2 == 1

-- V: another version of the SecTAG
abbrev pub has_version : List ℕ → Bool
has_version frame = has_flag 0x80 frame

-- ES: the SCI is the source address with port 1
abbrev pub is_end_station : List ℕ → Bool
is_end_station frame = has_flag 0x40 frame

-- SC: the SCI stands in the SecTAG
abbrev pub has_sci : List ℕ → Bool
has_sci frame = has_flag 0x20 frame

-- SCB: a single copy broadcast
abbrev pub is_broadcast : List ℕ → Bool
is_broadcast frame = has_flag 0x10 frame

-- E: the user data is enciphered
abbrev pub is_enciphered : List ℕ → Bool
is_enciphered frame = has_flag 0x08 frame

-- C: the user data is changed
abbrev pub is_changed : List ℕ → Bool
is_changed frame = has_flag 0x04 frame

-- the association number
abbrev pub an_of : List ℕ → AssociationNumber
an_of frame = of_bits (has_flag 0x02 frame) (has_flag 0x01 frame)

abbrev pub are_same : Bool → Bool → Bool
are_same true b = b
are_same false b = not b

-- the octet behind it: the short length
abbrev pub short_length_of : List ℕ → ℕ
short_length_of frame = slice_index frame 15

-- how many octets stand before the secure data: addresses and SecTAG
abbrev pub start_of : List ℕ → ℕ
start_of frame = if has_sci frame then 28 else 20

-- ---- the refusals, each by its own test

-- addresses and the EtherType of MACsec
abbrev pub is_sec : List ℕ → Bool
is_sec frame =
    nat_le 14 (length frame) && (slice_index frame 12 == 0x88) && (slice_index frame 13 == 0xe5)

-- octet 14 exists
abbrev pub has_control : List ℕ → Bool
has_control frame = nat_lt 14 (length frame)

-- the flags are those of a mode that is read: no broadcast, one of ES and SC, and E and C alike
abbrev pub is_mode : List ℕ → Bool
is_mode frame =
    not (is_broadcast frame) && not (are_same (is_end_station frame) (has_sci frame))
    && are_same (is_enciphered frame) (is_changed frame)

-- the flags are those of a mode that is read where the SCI may be implied: E and C alike, and with SC
-- neither ES nor SCB; without SC the SCI is the source address with port 1, whatever ES and SCB are
abbrev pub is_implied_mode : List ℕ → Bool
is_implied_mode frame =
    not (has_sci frame && (is_end_station frame || is_broadcast frame))
    && are_same (is_enciphered frame) (is_changed frame)

-- the frame ends before the tag does, by its short length
abbrev pub is_short : List ℕ → Bool
is_short frame = nat_lt (length frame) (start_of frame + short_length_of frame + 16)

-- the short length is none that is written for what follows: 48 or more, or 0 for fewer than 48
-- octets and a tag
abbrev pub is_length_wrong : List ℕ → Bool
is_length_wrong frame =
    nat_le least_long (short_length_of frame) || ((short_length_of frame == 0)
    && nat_lt (length frame) (start_of frame + (least_long + 16)))

-- the first refusal of a frame whose mode is read or not, in the order in which they are tried
abbrev pub refused_in : Bool → List ℕ → Option TagRefusal
refused_in mode frame =
    if not (is_sec frame) then Some NotSec else
    if has_control frame && has_version frame then Some Version else
    if has_control frame && not mode then Some Mode else
    if is_short frame then Some Short else
    if is_length_wrong frame then Some SlWrong else
    None

abbrev pub refused : List ℕ → Option TagRefusal
refused frame = refused_in (is_mode frame) frame

-- where the SCI may be implied
abbrev pub implied_refused : List ℕ → Option TagRefusal
implied_refused frame = refused_in (is_implied_mode frame) frame

-- the word that tells a refusal
abbrev pub tag_text : TagRefusal → List ℕ
tag_text NotSec = codes "notsec"
tag_text Version = codes "version"
tag_text Mode = codes "mode"
tag_text Short = codes "short"
tag_text SlWrong = codes "slwrong"

-- ---- what is read

-- the SCI: that of the SecTAG, or else the source address with port 1
abbrev pub sci_of : List ℕ → Sci
sci_of frame =
    if has_sci frame then record { 0 = take 8 (drop 20 frame) }
    else record { 0 = take 6 (drop 6 frame) ++ 0 ∷ 1 ∷ [] }

-- how many octets of secure data there are: the short length, or else all up to the last 16
abbrev pub data_length : List ℕ → ℕ
data_length frame =
    if short_length_of frame == 0 then length frame - (start_of frame + 16)
    else short_length_of frame

-- the fields of a frame that is not refused
abbrev pub tag_in : List ℕ → Tag
tag_in frame = record {
  sci = sci_of frame;
  an = an_of frame;
  pn = big_number 4 (drop 16 frame);
  conf = is_enciphered frame;
  start = start_of frame;
  len = data_length frame;
}

-- the fields of a frame, or its first refusal
abbrev pub fields_or : Option TagRefusal → List ℕ → Result Tag TagRefusal
fields_or None frame = Ok (tag_in frame)
fields_or (Some refusal) frame = Err refusal

unfoldable pub tag_fields : List ℕ → Result Tag TagRefusal
tag_fields frame = fields_or (refused frame) frame

-- of a frame whose SCI may be implied: that is its source address with port 1
unfoldable pub implied_fields : List ℕ → Result Tag TagRefusal
implied_fields frame = fields_or (implied_refused frame) frame
