-- The definitions at small histories that were worked out by hand.
use Rattle.std.proofs.Common.{◌≡◌, ℕ, true, false, List, [], ◌∷◌, Some, None, refl}
use Rattle.lan_base.specs.declared.address.Sci.{Sci}
use Rattle.lan_base.specs.declared.key_id.KeyId.{KeyId}
use Rattle.lan_base.specs.declared.association_number.AssociationNumber.TheVariants.{An0, An1, An2, An3}
use Rattle.mkpdu_codec.specs.declared.offset.ConfidentialityOffset.TheVariants as offsets
use Rattle.aes_block.specs.declared.secret.Secret.{Secret}
use Rattle.aes_block.specs.declared.secret.Secret.TheVariants.{S128, S256}
use Rattle.lan_base.specs.Instants.{is_recent}
use Rattle.known_keys.specs.declared.giving.Giving.TheVariants.{Key, Without}
use Rattle.known_keys.specs.declared.giving.NoSak.TheVariants.{OtherSuite, WrongWrap}
use Rattle.known_keys.specs.declared.sender.Sender.TheVariants.{Any, One}
use Rattle.known_keys.specs.History.{Entry, Set, Gave, Showed, Strange, keys}
use Rattle.known_keys.specs.Known.{known}
use Rattle.known_keys.specs.Numbered.{number_in}
use Rattle.known_keys.specs.OneKey.{given, key_given, lesser_of, other_first, same_id, same_named}
use Rattle.known_keys.specs.Said.{is_named_so, is_said, naming_of, statement_of}
use Rattle.known_keys.specs.Telling.{told_of}
use Rattle.known_keys.specs.declared.reason.Reason.TheVariants.{Suite, Offset, Unseen, Ckn, NoKey}
use Rattle.known_keys.specs.Undecided.{group_id, first_offset, named, undecided, was_without}

abbrev sci : ℕ → Sci
sci n = record { 0 = n ∷ [] }

abbrev id : ℕ → ℕ → KeyId
id server number = record { server = record { 0 = server ∷ [] }; number = number }

abbrev a : Secret
a = S128 (1 ∷ 2 ∷ [])

abbrev b : Secret
b = S128 (1 ∷ 3 ∷ [])

-- the octets of a in a SAK of the other length
abbrev wide : Secret
wide = S256 (1 ∷ 2 ∷ [])

abbrev c : Secret
c = S128 (4 ∷ [])

-- by hand a for any sender and b for the sender 7 under 0; packet 3 gives c under 0, packet 5 gives a
-- under 1, and packet 6 gives the wide one under 0 with an offset of 30 octets
abbrev history : List Entry
history =
    Gave 6 60 1 (id 9 3) An0 (Key offsets.Octets30 wide)
    ∷ Gave 5 50 1 (id 9 2) An1 (Key offsets.None a)
    ∷ Strange (sci 8)
    ∷ Showed 4 40 1 (id 9 1) An0
    ∷ Gave 3 30 1 (id 9 1) An0 (Key offsets.Octets0 c)
    ∷ Gave 2 20 1 (id 9 1) An0 (Without OtherSuite)
    ∷ Set (One (sci 7)) An0 b
    ∷ Set Any An0 a
    ∷ []

all : keys history ≡ a ∷ b ∷ c ∷ wide ∷ []
all = refl

its_number : number_in (keys history) c ≡ Some 3
its_number = refl

-- the newest first, and b to its sender alone
to_one : known history (sci 7) An0 ≡ 3 ∷ 2 ∷ 1 ∷ []
to_one = refl

to_another : known history (sci 8) An0 ≡ 3 ∷ 1 ∷ []
to_another = refl

under_another : known history (sci 7) An1 ≡ 1 ∷ []
under_another = refl

-- ---- what packets give

its_naming : given history 5 ≡ Some (id 9 2, record { an = An1; key = 1 })
its_naming = refl

its_identifier : key_given history 6 ≡ Some (4, id 9 3)
its_identifier = refl

no_giving : given history 2 ≡ None
no_giving = refl

-- the key 3 once more under its identifier, with another association number, and under another identifier
again : other_first _ same_named (record { an = An0; key = 3 }) (Some (3, record { an = An0; key = 3 })) ≡ None
again = refl

other_number : other_first _ same_named (record { an = An1; key = 3 }) (Some (3, record { an = An0; key = 3 })) ≡ Some 3
other_number = refl

other_name : other_first _ same_id (id 8 1) (Some (3, id 9 1)) ≡ Some 3
other_name = refl

-- of two pairs the one with the less later packet, and then the one with the less earlier
less_later : lesser_of (Some (4, 6)) (Some (5, 5)) ≡ Some (5, 5)
less_later = refl

less_earlier : lesser_of (Some (4, 6)) (Some (3, 6)) ≡ Some (3, 6)
less_earlier = refl

one_alone : lesser_of None (Some (3, 6)) ≡ Some (3, 6)
one_alone = refl

-- ---- what is said

-- what packet 5 says was said of its group, and of no other one
said_before : is_said history (statement_of 1 (id 9 2) An1 offsets.None 1) ≡ true
said_before = refl

of_another_group : is_said history (statement_of 2 (id 9 2) An1 offsets.None 1) ≡ false
of_another_group = refl

-- and of its identifier
said_of_it : is_named_so history (naming_of (id 9 2) An1 1) ≡ true
said_of_it = refl

-- ---- what is told of a key that is given

-- the key 3 as packet 3 gave it
told_again : told_of history 1 (id 9 1) An0 offsets.Octets0 3
    ≡ record { key = 3; is_new = false; is_new_naming = false; other_name = None; other_id = None }
told_again = refl

-- in another group
told_in_another : told_of history 2 (id 9 1) An0 offsets.Octets0 3
    ≡ record { key = 3; is_new = true; is_new_naming = false; other_name = None; other_id = None }
told_in_another = refl

-- the key 1, which packet 5 gave under the identifier 9 2, under that of packet 3
told_of_others : told_of history 1 (id 9 1) An0 offsets.Octets0 1
    ≡ record { key = 1; is_new = true; is_new_naming = true; other_name = Some 3; other_id = Some 5 }
told_of_others = refl

-- ---- why a frame is undecided

-- at 100 of the sender 7 under 0, in the history above: the identifier 9 3 was given with an offset of 30, and the
-- identifier 9 1 first with a SAK
of_offset : undecided history (sci 7) An0 100 ≡ Some Offset
of_offset = refl

first_of_one : first_offset history (group_id 1 (id 9 1)) ≡ Some offsets.Octets0
first_of_one = refl

other_of_one : was_without history OtherSuite (group_id 1 (id 9 1)) ≡ true
other_of_one = refl

-- LIFE later nothing that was named counts: it is wrong where keys are known to it, and of the sender 8 a packet of
-- an unknown key name came
at_life : undecided history (sci 7) An0 6000000060 ≡ None
at_life = refl

just_before : undecided history (sci 7) An0 6000000059 ≡ Some Offset
just_before = refl

of_strange : undecided history (sci 8) An0 6000000060 ≡ Some Ckn
of_strange = refl

of_none : undecided history (sci 7) An2 100 ≡ Some NoKey
of_none = refl

-- a time behind the frame's counts
behind_it : is_recent 200 100 ≡ true
behind_it = refl

-- a key for another suite alone, in another group, and before an identifier of which nothing was given
abbrev missed : List Entry
missed =
    Showed 9 90 1 (id 9 5) An2
    ∷ Gave 8 80 2 (id 9 4) An2 (Key offsets.Octets0 c)
    ∷ Showed 7 70 1 (id 9 4) An1
    ∷ Gave 6 60 1 (id 9 4) An2 (Without OtherSuite)
    ∷ Gave 5 50 1 (id 9 6) An3 (Without WrongWrap)
    ∷ []

of_suite : undecided missed (sci 7) An2 100 ≡ Some Suite
of_suite = refl

suite_by_showing : undecided missed (sci 7) An1 100 ≡ Some Suite
suite_by_showing = refl

-- an identifier of which nothing was given
never_given : undecided (Showed 1 10 1 (id 9 1) An0 ∷ []) (sci 7) An0 20 ≡ Some Unseen
never_given = refl

wrap_is_unseen : undecided missed (sci 7) An3 100 ≡ Some Unseen
wrap_is_unseen = refl

-- a SAK that is given later answers for it, and the identifier 9 5 is left
after_giving : undecided (Gave 10 100 1 (id 9 4) An2 (Key offsets.Octets0 a) ∷ missed) (sci 7) An2 100 ≡ Some Unseen
after_giving = refl

-- the first of two SAKs decides
first_decides : undecided (Gave 11 110 1 (id 9 4) An1 (Key offsets.Octets0 a)
    ∷ Gave 10 100 1 (id 9 4) An1 (Key offsets.Octets50 b) ∷ missed) (sci 7) An1 120 ≡ Some Offset
first_decides = refl

named_twice : named missed An2 ≡ (group_id 1 (id 9 5), 90) ∷ (group_id 2 (id 9 4), 80) ∷ (group_id 1 (id 9 4), 60) ∷ []
named_twice = refl
