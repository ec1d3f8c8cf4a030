-- What tells high halves of packet numbers: a history of what was read, newest first.
use Rattle.std.specs.Prelude.{ℕ, ◌==◌, ◌&&◌, Bool, if◌then◌else◌, List, [], ◌∷◌, Option, Some, None}
use Rattle.std.specs.Option.{option_or}
use Rattle.std.specs.BTreeMap.{insert_entry}
use Rattle.std.specs.Ordering.{nat_cmp, ordering_then}
use Rattle.std.specs.declared.cmp.Ordering.{Ordering}
use Rattle.lan_base.specs.declared.address.Mi.{Mi}
use Rattle.lan_base.specs.declared.address.Sci.{Sci}
use Rattle.lan_base.specs.declared.key_id.KeyId.{KeyId}
use Rattle.lan_base.specs.Identifiers.{order, same_mi, same_sci}
use Rattle.xpn_numbers.specs.declared.place.Place.{Place}
use Rattle.xpn_numbers.specs.declared.place.Places.{Places}
use Rattle.xpn_numbers.specs.declared.shown.ShownHighs.{ShownHighs}
use Rattle.xpn_numbers.specs.declared.shown.Said.{Said}

pub data Entry : Type 0 where
  -- a frame was right under a key with a salt: the key, the sender, and where the frame stood
  Right : ℕ → Sci → Place → Entry
  -- a packet gave the SAK of a key: the group, the identifier, and the key
  Gave : ℕ → KeyId → ℕ → Entry
  -- a member, of a group and with an MI, said something new: when, in nanoseconds, and what it showed
  Spoke : ℕ → Mi → ℕ → ShownHighs → Entry

-- ---- right frames

abbrev pub places_after : Option Places → Place → Places
places_after None place = record { first = place; last = place }
places_after (Some places) place = record places { last = place }

-- the first and the last place of the right frames of a key and sender
abbrev pub places : ℕ → Sci → List Entry → Option Places
places key sci [] = None
places key sci (Right its_key its_sci place ∷ before) =
    if (its_key == key) && same_sci its_sci sci then Some (places_after (places key sci before) place)
    else places key sci before
places key sci (Gave group id its_key ∷ before) = places key sci before
places key sci (Spoke group mi nanos shown ∷ before) = places key sci before

-- ---- identifiers

abbrev pub same_id : KeyId → KeyId → Bool
same_id a b = same_mi a.server b.server && (a.number == b.number)

-- the key of the first SAK of an identifier in a group
abbrev pub first_key : ℕ → KeyId → List Entry → Option ℕ
first_key group id [] = None
first_key group id (Gave its_group its_id key ∷ before) =
    if (its_group == group) && same_id its_id id then option_or (first_key group id before) (Some key)
    else first_key group id before
first_key group id (Right key sci place ∷ before) = first_key group id before
first_key group id (Spoke its_group mi nanos shown ∷ before) = first_key group id before

-- ---- members

abbrev pub Member : Type 0
Member = ℕ × Mi

-- members stand by their groups, and in a group by their MIs
abbrev pub member_cmp : Member → Member → Ordering
member_cmp a b = ordering_then (nat_cmp a.0 b.0) (order a.1 b.1)

-- what each member said last, in the order of members
abbrev pub spoken : List Entry → List (Member × Said)
spoken [] = []
spoken (Spoke group mi nanos shown ∷ before) =
    insert_entry member_cmp (spoken before) (group, mi) (record { nanos = nanos; shown = shown })
spoken (Right key sci place ∷ before) = spoken before
spoken (Gave group id key ∷ before) = spoken before
