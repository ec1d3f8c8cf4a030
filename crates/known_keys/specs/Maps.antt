-- What is kept: maps and sets as lists, and how they are looked up.
use Rattle.std.specs.Prelude.{ℕ, ◌≡◌, ◌≤◌, ◌⊎◌, Bool, length, map, List, [], ◌∷◌, Option, Some, None, unwrap_or}
use Rattle.std.specs.List.{list_any}
use Rattle.std.specs.Map.{lookup}
use Rattle.std.specs.BTreeMap.{is_at}
use Rattle.std.specs.Ordering.{nat_cmp, ordering_then}
use Rattle.std.specs.Option.{option_cmp}
use Rattle.std.specs.Cmp.Lexicographic.{slice_cmp}
use Rattle.std.specs.declared.cmp.Ordering.{Ordering}
use Rattle.lan_base.specs.declared.address.Mi.{Mi}
use Rattle.lan_base.specs.declared.address.Sci.{Sci}
use Rattle.lan_base.specs.declared.association_number.AssociationNumber.{AssociationNumber}
use Rattle.lan_base.specs.declared.association_number.AssociationNumber.TheVariants.{An0, An1, An2, An3}
use Rattle.lan_base.specs.declared.key_id.KeyId.{KeyId}
use Rattle.lan_base.specs.AssociationNumbers.{number_of}
use Rattle.lan_base.specs.Identifiers.{order}
use Rattle.aes_block.specs.declared.secret.Secret.{Secret}
use Rattle.aes_block.specs.declared.secret.Secret.TheVariants.{S128, S256}
use Rattle.aes_block.specs.Secrets.{secret_octets}
use Rattle.mkpdu_codec.specs.declared.offset.ConfidentialityOffset.{ConfidentialityOffset}
use Rattle.known_keys.specs.declared.named.Named.{Named}
use Rattle.known_keys.specs.declared.sender.Sender.{Sender}
use Rattle.known_keys.specs.declared.sender.Sender.TheVariants.{Any, One}
use Rattle.known_keys.specs.Numbered.{most_keys, number_in}
use Rattle.known_keys.specs.Said.{Naming, Statement}
use Rattle.known_keys.specs.Undecided.{GroupId}

-- ---- the numbers of SAKs

-- by the octets of SAKs of one length
abbrev pub ByOctets : Type 0
ByOctets = List (List ℕ × ℕ)

abbrev pub number_at : ByOctets → List ℕ → Option ℕ
number_at entries octets = lookup (is_at (slice_cmp nat_cmp octets)) entries

pub record Numbers : Type 0 where
  pub narrow : ByOctets
  pub wide : ByOctets

abbrev pub number_by : Numbers → Secret → Option ℕ
number_by numbers (S128 octets) = number_at numbers.narrow octets
number_by numbers (S256 octets) = number_at numbers.wide octets

-- ---- the keys

-- the octets of the keys in order, and the number of each SAK
pub record Keyed : Type 0 where
  pub prepared : List (List ℕ)
  pub numbers : Numbers

-- these SAKs are kept: each key is prepared at its place, each SAK has its number, and they are few
pub record AreKept (saks : List Secret) (keyed : Keyed) : Type 0 where
  pub prepared : keyed.prepared ≡ map secret_octets saks
  pub numbered : (sak : Secret) → number_by keyed.numbers sak ≡ number_in saks sak
  pub few : length saks ≤ most_keys

-- ---- lists of numbers by association number and sender

abbrev pub Place : Type 0
Place = ℕ × Option Sci

abbrev pub sci_cmp : Sci → Sci → Ordering
sci_cmp a b = slice_cmp nat_cmp a.0 b.0

abbrev pub place_cmp : Place → Place → Ordering
place_cmp a b = ordering_then (nat_cmp a.0 b.0) (option_cmp sci_cmp a.1 b.1)

abbrev pub Told : Type 0
Told = List (Place × List ℕ)

abbrev pub numbers_at : Told → Place → List ℕ
numbers_at told place = unwrap_or (lookup (is_at (place_cmp place)) told) []

-- the one sender, or none for any
abbrev pub sender_of : Sender → Option Sci
sender_of Any = None
sender_of (One sci) = Some sci

abbrev pub place_under : Sender → AssociationNumber → Place
place_under sender an = (number_of an, sender_of sender)

abbrev pub numbers_under : Told → Sender → AssociationNumber → List ℕ
numbers_under told sender an = numbers_at told (place_under sender an)

-- ---- what was told first of each identifier and of each key

abbrev pub id_cmp : Mi × ℕ → Mi × ℕ → Ordering
id_cmp a b = ordering_then (order a.0 b.0) (nat_cmp a.1 b.1)

-- by identifier, the first packet that gives it, and what it names
abbrev pub Names : Type 0
Names = List ((Mi × ℕ) × (ℕ × Named))

abbrev pub first_naming : Names → KeyId → Option (ℕ × Named)
first_naming names id = lookup (is_at (id_cmp (id.server, id.number))) names

-- by the number of a key, the first packet that gives it, and under which identifier
abbrev pub KeyIds : Type 0
KeyIds = List (ℕ × (ℕ × KeyId))

abbrev pub first_giving : KeyIds → ℕ → Option (ℕ × KeyId)
first_giving ids key = lookup (is_at (nat_cmp key)) ids

pub record Firsts : Type 0 where
  pub names : Names
  pub ids : KeyIds
  pub name_pair : Option (ℕ × ℕ)
  pub id_pair : Option (ℕ × ℕ)
  pub last : ℕ

-- ---- what was said

abbrev pub pair_cmp : ℕ × ℕ → ℕ × ℕ → Ordering
pair_cmp a b = ordering_then (nat_cmp a.0 b.0) (nat_cmp a.1 b.1)

abbrev pub naming_cmp : Naming → Naming → Ordering
naming_cmp a b = ordering_then (id_cmp a.0 b.0) (pair_cmp a.1 b.1)

abbrev pub offset_cmp : Naming × ℕ → Naming × ℕ → Ordering
offset_cmp a b = ordering_then (naming_cmp a.0 b.0) (nat_cmp a.1 b.1)

abbrev pub statement_cmp : Statement → Statement → Ordering
statement_cmp a b = ordering_then (nat_cmp a.0 b.0) (offset_cmp a.1 b.1)

abbrev pub has : {K : Type 0} → (K → K → Ordering) → List K → K → Bool
has cmp keys k = list_any (is_at (cmp k)) keys

pub record Sets : Type 0 where
  pub statements : List Statement
  pub namings : List Naming

-- ---- what says why a frame is undecided

abbrev pub group_id_cmp : GroupId → GroupId → Ordering
group_id_cmp a b = ordering_then (nat_cmp a.0 b.0) (id_cmp a.1 b.1)

-- by identifier in a group, the offset with which its first SAK was given
abbrev pub Offsets : Type 0
Offsets = List (GroupId × ConfidentialityOffset)

abbrev pub offset_at : Offsets → GroupId → Option ConfidentialityOffset
offset_at offsets it = lookup (is_at (group_id_cmp it)) offsets

-- by association number, the identifiers that were named under it, and when
pub record NamedTimes : Type 0 where
  pub an0 : List (GroupId × ℕ)
  pub an1 : List (GroupId × ℕ)
  pub an2 : List (GroupId × ℕ)
  pub an3 : List (GroupId × ℕ)

abbrev pub times_under : NamedTimes → AssociationNumber → List (GroupId × ℕ)
times_under times An0 = times.an0
times_under times An1 = times.an1
times_under times An2 = times.an2
times_under times An3 = times.an3

-- an element stands in a list
abbrev pub IsIn : {X : Type 0} → List X → X → Type 0
IsIn [] x = ⊥
IsIn (y ∷ ys) x = (x ≡ y) ⊎ IsIn ys x

-- each identifier of a list stands in another with a time that is not less
abbrev pub IsCoveredBy : List (GroupId × ℕ) → List (GroupId × ℕ) → Type 0
IsCoveredBy xs ys = (x : GroupId × ℕ) → IsIn xs x
    → (y : GroupId × ℕ) × (IsIn ys y × ((y.0 ≡ x.0) × (x.1 ≤ y.1)))

pub record Missed : Type 0 where
  pub offsets : Offsets
  pub suites : List GroupId
  pub wraps : List GroupId
  pub named : NamedTimes
  pub strange : List Sci
