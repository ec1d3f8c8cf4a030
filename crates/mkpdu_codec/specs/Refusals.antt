-- The first refusal of a frame that spells no announcement.
use Rattle.std.specs.Prelude.{ℕ, zero, suc, ◌+◌, ◌-◌, ◌*◌, ◌%◌, Bool, not, ◌&&◌, ◌||◌, ◌==◌, nat_le, if◌then◌else◌, List, [], ◌∷◌, length, take, drop, slice_index, Option, Some, None}
use Rattle.std.specs.List.{list_any, starts_with}
use Rattle.byteorder.specs.Endian.{big_number}
use Rattle.lan_base.specs.Ranges.{most_ckn_octets}
use Rattle.mkpdu_codec.specs.declared.refusal.Refusal.{Refusal}
use Rattle.mkpdu_codec.specs.declared.refusal.Refusal.TheVariants.{NotMka, Short, Shape, Repeated, Agility}
use Rattle.mkpdu_codec.specs.Sets.{set_length, agility, check_length, live_peers, potential_peers, sak_use, distributed_sak, icv_indicator}

-- 18 octets of header, a group address as destination, the EtherType of EAPOL, and the packet type
-- of MKA
abbrev pub is_mka : List ℕ → Bool
is_mka frame =
    nat_le 18 (length frame) && (slice_index frame 12 == 0x88) && (slice_index frame 13 == 0x8e)
    && (slice_index frame 15 == 5) && (slice_index frame 0 % 2 == 1)

-- the length of the EAPOL body
abbrev pub body_length : List ℕ → ℕ
body_length frame = big_number 2 (drop 16 frame)

-- the body has 32 octets, a multiple of four, and no more than stand behind the header
abbrev pub is_long_enough : List ℕ → Bool
is_long_enough frame =
    nat_le 32 (body_length frame) && (body_length frame % 4 == 0)
    && nat_le (18 + body_length frame) (length frame)

-- where the check value begins
abbrev pub check_place : List ℕ → ℕ
check_place frame = 18 + (body_length frame - check_length)

-- the octets of the sets, up to the check value
abbrev pub sets_of : List ℕ → List ℕ
sets_of frame = take (body_length frame - check_length) (drop 18 frame)

-- the type of the set that stands in front
abbrev pub front_kind : List ℕ → ℕ
front_kind octets = slice_index octets 0

-- the length of its body
abbrev pub front_length : List ℕ → ℕ
front_length octets = slice_index octets 2 % 16 * 256 + slice_index octets 3

-- how many octets it has, with its header and its padding
abbrev pub front_size : List ℕ → ℕ
front_size octets = set_length (front_length octets)

-- it ends at or before the check value
abbrev pub is_whole : List ℕ → Bool
is_whole octets = nat_le (front_size octets) (length octets)

-- the header of an ICV Indicator stands directly before the check value
abbrev pub is_indicator : List ℕ → Bool
is_indicator octets =
    (length octets == 4) && (front_kind octets == icv_indicator)
    && (front_length octets == check_length)

-- the length of a peer list: whole entries
abbrev pub is_peers_length : ℕ → Bool
is_peers_length n = n % 16 == 0

-- the length of a SAK Use: that of two keys, or nothing
abbrev pub is_uses_length : ℕ → Bool
is_uses_length n = (n == 0) || (n == 40)

-- the length of a Distributed SAK: at least that of a key number, or nothing
abbrev pub is_given_length : ℕ → Bool
is_given_length n = (n == 0) || nat_le 4 n

-- the lengths that a type allows; a set of the ICV Indicator's type allows none here
abbrev pub is_length_of : ℕ → ℕ → Bool
is_length_of kind n =
    if (kind == live_peers) || (kind == potential_peers) then is_peers_length n else
    if kind == sak_use then is_uses_length n else
    if kind == distributed_sak then is_given_length n else
    not (kind == icv_indicator)

-- the types of which there is at most one set
abbrev pub is_single : ℕ → Bool
is_single kind = nat_le live_peers kind && nat_le kind distributed_sak

-- the first refusal of the sets that are left, where the check value begins at `end` and sets of
-- the types `met` went before: of one set first its shape, and then that it is a second one. The
-- count bounds how many sets there can be.
unfoldable pub refused_sets : ℕ → ℕ → List ℕ → List ℕ → Option Refusal
refused_sets zero end met octets = None
refused_sets (suc n) end met octets =
    if (length octets == 0) || is_indicator octets then None else
    if not (is_whole octets && is_length_of (front_kind octets) (front_length octets))
    then Some (Shape (end - length octets)) else
    if is_single (front_kind octets) && list_any (λ kind. kind == front_kind octets) met
    then Some (Repeated (front_kind octets)) else
    refused_sets n end (front_kind octets ∷ met) (drop (front_size octets) octets)

-- the fixed fields of a Basic Parameter Set have so many octets
abbrev pub basic_fields : ℕ
basic_fields = 28

-- the length of a Basic Parameter Set: its fixed fields, and a CKN
abbrev pub is_basic_length : ℕ → Bool
is_basic_length n =
    nat_le (basic_fields + 1) n && nat_le n (basic_fields + most_ckn_octets)

-- the Basic Parameter Set ends before the check value, and has a CKN
abbrev pub is_basic : List ℕ → Bool
is_basic octets = is_whole octets && is_basic_length (front_length octets)

-- the octets begin with the one algorithm agility that there is
abbrev pub is_known : List ℕ → Bool
is_known octets = starts_with (λ a b. a == b) octets agility

-- the octets of the sets behind it
abbrev pub others_of : List ℕ → List ℕ
others_of frame = drop (front_size (sets_of frame)) (sets_of frame)

abbrev pub or_else : Option Refusal → Option Refusal → Option Refusal
or_else None next = next
or_else (Some e) next = Some e

-- the first refusal of a frame, in the order in which they are tried
unfoldable pub refused : List ℕ → Option Refusal
refused frame =
    if not (is_mka frame) then Some NotMka else
    if not (is_long_enough frame) then Some Short else
    if not (is_basic (sets_of frame)) then Some (Shape 18) else
    or_else (refused_sets (length (others_of frame)) (check_place frame) [] (others_of frame))
    (if is_known (drop 28 (sets_of frame)) then None else Some Agility)
