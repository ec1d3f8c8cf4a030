-- What makes keys known: a history of what was read, newest first.
use Rattle.std.specs.Prelude.{ℕ, List, [], ◌∷◌, Option, Some, None}
use Rattle.lan_base.specs.declared.address.Sci.{Sci}
use Rattle.lan_base.specs.declared.key_id.KeyId.{KeyId}
use Rattle.lan_base.specs.declared.association_number.AssociationNumber.{AssociationNumber}
use Rattle.aes_block.specs.declared.secret.Secret.{Secret}
use Rattle.known_keys.specs.declared.sender.Sender.{Sender}
use Rattle.known_keys.specs.declared.giving.Giving.{Giving}
use Rattle.known_keys.specs.declared.giving.Giving.TheVariants.{Key}
use Rattle.known_keys.specs.Numbered.{with_key}

pub data Entry : Type 0 where
  -- a key was set by hand for the frames of a sender under an association number
  Set : Sender → AssociationNumber → Secret → Entry
  -- a packet gave a key: its number and time in nanoseconds, the group, and what it gave under which
  -- identifier and association number
  Gave : ℕ → ℕ → ℕ → KeyId → AssociationNumber → Giving → Entry
  -- a packet showed a key in use: its number and time, the group, the identifier, the association number
  Showed : ℕ → ℕ → ℕ → KeyId → AssociationNumber → Entry
  -- a packet of this SCI was of a key name that no group has
  Strange : Sci → Entry

-- the SAK that an entry tells, if it tells one
abbrev pub sak_of : Entry → Option Secret
sak_of (Set sender an sak) = Some sak
sak_of (Gave packet nanos group id an (Key offset sak)) = Some sak
sak_of _ = None

-- the keys: the different SAKs in the order in which they became known
abbrev pub keys : List Entry → List Secret
keys [] = []
keys (entry ∷ before) = with_key (keys before) (sak_of entry)
