-- What a value says of the history so far.
use Rattle.std.specs.Prelude.{ℕ, ◌≡◌, ◌≤◌, List, length, Some}
use Rattle.lan_base.specs.declared.address.Sci.{Sci}
use Rattle.lan_base.specs.declared.association_number.AssociationNumber.{AssociationNumber}
use Rattle.lan_base.specs.declared.key_id.KeyId.{KeyId}
use Rattle.least_pairs.specs.Pairs.{IsFound, IsJudged}
use Rattle.known_keys.specs.declared.giving.NoSak.TheVariants.{OtherSuite, WrongWrap}
use Rattle.known_keys.specs.declared.named.Named.{Named}
use Rattle.known_keys.specs.declared.sender.Sender.{Sender}
use Rattle.known_keys.specs.Numbered.{greatest_first}
use Rattle.known_keys.specs.History.{Entry, keys}
use Rattle.known_keys.specs.Known.{is_told}
use Rattle.known_keys.specs.OneKey.{BreaksKey, BreaksName, first_identified, first_named, given, key_given}
use Rattle.known_keys.specs.Said.{Naming, Statement, is_named_so, is_said}
use Rattle.known_keys.specs.Undecided.{GroupId, first_offset, named, was_strange, was_without}
use Rattle.known_keys.specs.Maps.{AreKept, Firsts, IsCoveredBy, Keyed, Missed, Sets, Told, first_giving, first_naming, group_id_cmp, has, naming_cmp, numbers_under, offset_at, sci_cmp, statement_cmp, times_under}

-- what is kept of the keys that were given and set
pub record KeptKeys : Type 0 where
  pub keys : Keyed
  pub lists : Told
  pub firsts : Firsts
  pub said : Sets
  pub misses : Missed

-- what was given first of each identifier and of each key, the least pairs, and the last packet
pub record IsOneKey (history : List Entry) (firsts : Firsts) : Type 0 where
  pub names : (id : KeyId) → IsFound KeyId Named (given history) id (first_naming firsts.names id)
  pub ids : (key : ℕ) → IsFound ℕ KeyId (key_given history) key (first_giving firsts.ids key)
  pub first_names : (id : KeyId) → first_naming firsts.names id ≡ first_named history id
  pub first_ids : (key : ℕ) → first_giving firsts.ids key ≡ first_identified history key
  pub name_pair : IsJudged (BreaksName history) firsts.name_pair
  pub id_pair : IsJudged (BreaksKey history) firsts.id_pair
  pub within : (packet : ℕ) (it : KeyId × Named) → given history packet ≡ Some it → packet ≤ firsts.last

-- what was said
pub record IsSaid (history : List Entry) (said : Sets) : Type 0 where
  pub by_group : (it : Statement) → has statement_cmp said.statements it ≡ is_said history it
  pub by_all : (it : Naming) → has naming_cmp said.namings it ≡ is_named_so history it

-- what says why a frame is undecided: of each identifier in a group what was given first, the identifiers that were
-- named, each with the latest time, and the senders of packets of unknown key names
pub record IsMissed (history : List Entry) (misses : Missed) : Type 0 where
  pub offsets : (it : GroupId) → offset_at misses.offsets it ≡ first_offset history it
  pub suites : (it : GroupId) → has group_id_cmp misses.suites it ≡ was_without history OtherSuite it
  pub wraps : (it : GroupId) → has group_id_cmp misses.wraps it ≡ was_without history WrongWrap it
  pub every_named : (an : AssociationNumber) → IsCoveredBy (named history an) (times_under misses.named an)
  pub only_named : (an : AssociationNumber) → IsCoveredBy (times_under misses.named an) (named history an)
  pub strange : (sci : Sci) → has sci_cmp misses.strange sci ≡ was_strange history sci

pub record StandsFor (history : List Entry) (kept : KeptKeys) : Type 0 where
  pub are_kept : AreKept (keys history) kept.keys
  pub lists : (sender : Sender) (an : AssociationNumber)
      → numbers_under kept.lists sender an ≡ greatest_first (is_told history sender an) (length (keys history))
  pub one_key : IsOneKey history kept.firsts
  pub is_said : IsSaid history kept.said
  pub is_missed : IsMissed history kept.misses
