-- Which keys were given, where, and in which order.
use Rattle.std.specs.Prelude.{ℕ, ◌==◌, ◌&&◌, ◌||◌, not, nat_eq, Bool, false, if◌then◌else◌, List, [], ◌∷◌, ◌++◌, reverse, take_while, Option, Some, None}
use Rattle.std.specs.List.{list_any}
use Rattle.std.specs.Option.{option_or}
use Rattle.lan_base.specs.declared.address.Mi.{Mi}
use Rattle.lan_base.specs.declared.key_id.KeyId.{KeyId}
use Rattle.lan_base.specs.Identifiers.{same_mi}
use Rattle.rollover_notes.specs.Events.{Event, Gave, Spoke, Used}

-- an identifier of a key in a group
abbrev pub GroupId : Type 0
GroupId = ℕ × (Mi × ℕ)

abbrev pub group_id : ℕ → KeyId → GroupId
group_id group id = (group, (id.server, id.number))

abbrev pub same_group_id : GroupId → GroupId → Bool
same_group_id a b = (a.0 == b.0) && (same_mi a.1.0 b.1.0 && (a.1.1 == b.1.1))

-- the key of an identifier in a group: that of its first giving there
abbrev pub key_of : List Event → GroupId → Option ℕ
key_of [] it = None
key_of (Gave group id key ∷ h) it =
    option_or (key_of h it) (if same_group_id (group_id group id) it then Some key else None)
key_of (Spoke s ∷ h) it = key_of h it
key_of (Used frame ∷ h) it = key_of h it

-- whether a key was given in a group
abbrev pub is_given : List Event → ℕ → ℕ → Bool
is_given [] group key = false
is_given (Gave its_group id its_key ∷ h) group key =
    ((its_group == group) && (its_key == key)) || is_given h group key
is_given (Spoke s ∷ h) group key = is_given h group key
is_given (Used frame ∷ h) group key = is_given h group key

-- a key stands behind all that were given before it
abbrev pub with_key : ℕ → List ℕ → List ℕ
with_key key ks = if list_any (nat_eq key) ks then ks else ks ++ key ∷ []

-- the keys in the order in which each was first given, in whatever group
abbrev pub in_order : List Event → List ℕ
in_order [] = []
in_order (Gave group id key ∷ h) = with_key key (in_order h)
in_order (Spoke s ∷ h) = in_order h
in_order (Used frame ∷ h) = in_order h

abbrev pub is_other : ℕ → ℕ → Bool
is_other key k = not (k == key)

-- of keys in order, those first given before one of them
abbrev pub given_before : ℕ → List ℕ → List ℕ
given_before key ks = take_while (is_other key) ks

-- those first given later, the last one first
abbrev pub given_later : ℕ → List ℕ → List ℕ
given_later key ks = take_while (is_other key) (reverse ks)
