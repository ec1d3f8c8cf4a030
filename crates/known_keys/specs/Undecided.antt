-- Why a protected frame is undecided for which no known key is right.
use Rattle.std.specs.Prelude.{ℕ, ◌==◌, ◌&&◌, not, is_none, filter_map, length, Bool, true, false, if◌then◌else◌, List, [], ◌∷◌, Option, Some, None}
use Rattle.std.specs.List.{list_any}
use Rattle.std.specs.Option.{option_or}
use Rattle.lan_base.specs.declared.address.Mi.{Mi}
use Rattle.lan_base.specs.declared.address.Sci.{Sci}
use Rattle.lan_base.specs.declared.association_number.AssociationNumber.{AssociationNumber}
use Rattle.lan_base.specs.declared.key_id.KeyId.{KeyId}
use Rattle.lan_base.specs.AssociationNumbers.{same_an}
use Rattle.lan_base.specs.Identifiers.{same_mi, same_sci}
use Rattle.lan_base.specs.Instants.{is_recent}
use Rattle.mkpdu_codec.specs.declared.offset.ConfidentialityOffset.{ConfidentialityOffset}
use Rattle.known_keys.specs.declared.giving.Giving.TheVariants.{Key, Without}
use Rattle.known_keys.specs.declared.giving.NoSak.{NoSak}
use Rattle.known_keys.specs.declared.giving.NoSak.TheVariants.{OtherSuite, WrongWrap}
use Rattle.known_keys.specs.declared.reason.Reason.{Reason}
use Rattle.known_keys.specs.declared.reason.Reason.TheVariants.{Suite, Offset, Unseen, Ckn, NoKey}
use Rattle.known_keys.specs.History.{Entry, Gave, Showed, Strange}
use Rattle.known_keys.specs.Known.{is_open, known}

-- an identifier of a key in a group
abbrev pub GroupId : Type 0
GroupId = ℕ × (Mi × ℕ)

abbrev pub group_id : ℕ → KeyId → GroupId
group_id group id = (group, (id.server, id.number))

abbrev pub same_group_id : GroupId → GroupId → Bool
same_group_id a b = (a.0 == b.0) && (same_mi a.1.0 b.1.0 && (a.1.1 == b.1.1))

-- ---- what was given of an identifier in a group

-- the offset with which an entry gives a SAK of it
abbrev pub sak_offset : GroupId → Entry → Option ConfidentialityOffset
sak_offset it (Gave packet nanos group id an (Key offset sak)) =
    if same_group_id (group_id group id) it then Some offset else None
sak_offset it _ = None

-- the offset with which its first SAK was given, if one was
abbrev pub first_offset : List Entry → GroupId → Option ConfidentialityOffset
first_offset [] it = None
first_offset (entry ∷ before) it = option_or (first_offset before it) (sak_offset it entry)

abbrev pub same_no_sak : NoSak → NoSak → Bool
same_no_sak OtherSuite OtherSuite = true
same_no_sak WrongWrap WrongWrap = true
same_no_sak _ _ = false

-- an entry gives it without a SAK, for this reason
abbrev pub gives_without : NoSak → GroupId → Entry → Bool
gives_without why it (Gave packet nanos group id an (Without its_why)) =
    same_no_sak its_why why && same_group_id (group_id group id) it
gives_without why it _ = false

abbrev pub was_without : List Entry → NoSak → GroupId → Bool
was_without history why it = list_any (gives_without why it) history

-- the first SAK of it came with an offset under which no frames are opened
abbrev pub is_closed : Option ConfidentialityOffset → Bool
is_closed None = false
is_closed (Some offset) = not (is_open offset)

-- By the offset of its first SAK, and whether a key for another suite was given: no SAK of it was given, but
-- one for another suite was; its first SAK was given with an offset of 30 or 50 octets; or nothing of the two, and
-- no SAK of it was given.
abbrev pub is_for : Reason → Option ConfidentialityOffset → Bool → Bool
is_for Suite first other = is_none first && other
is_for Offset first other = is_closed first
is_for Unseen first other = is_none first && not other
is_for Ckn first other = false
is_for NoKey first other = false

-- ---- which identifiers are named

-- what an entry names under an association number, in giving or in showing it, and when
abbrev pub names : AssociationNumber → Entry → Option (GroupId × ℕ)
names an (Gave packet nanos group id its_an what) =
    if same_an its_an an then Some (group_id group id, nanos) else None
names an (Showed packet nanos group id its_an) =
    if same_an its_an an then Some (group_id group id, nanos) else None
names an _ = None

abbrev pub named : List Entry → AssociationNumber → List (GroupId × ℕ)
named history an = filter_map (names an) history

-- an identifier for which this reason holds was named under an association number, less than MKA Life Time before
abbrev pub is_missing : List Entry → AssociationNumber → ℕ → Reason → Bool
is_missing history an now reason =
    list_any
    (λ it. is_recent it.1 now && is_for reason (first_offset history it.0) (was_without history OtherSuite it.0))
    (named history an)

-- ---- the first reason

-- an entry is a packet of this SCI, of a key name that no group has
abbrev pub is_strange : Sci → Entry → Bool
is_strange sci (Strange its_sci) = same_sci its_sci sci
is_strange sci _ = false

abbrev pub was_strange : List Entry → Sci → Bool
was_strange history sci = list_any (is_strange sci) history

abbrev pub is_unknown : List Entry → Sci → AssociationNumber → Bool
is_unknown history sci an = length (known history sci an) == 0

-- the first of these that holds
abbrev pub first_of : Bool → Bool → Bool → Bool → Bool → Option Reason
first_of suite offset unseen ckn no_key =
    if suite then Some Suite
    else if offset then Some Offset
    else if unseen then Some Unseen
    else if ckn then Some Ckn
    else if no_key then Some NoKey
    else None

-- why a frame of a sender under an association number is undecided at this time
abbrev pub undecided : List Entry → Sci → AssociationNumber → ℕ → Option Reason
undecided history sci an now =
    first_of (is_missing history an now Suite) (is_missing history an now Offset)
    (is_missing history an now Unseen) (was_strange history sci) (is_unknown history sci an)
