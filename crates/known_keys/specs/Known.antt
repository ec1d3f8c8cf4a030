-- Which keys are known to a frame.
use Rattle.std.specs.Prelude.{ℕ, ◌==◌, ◌&&◌, ◌||◌, Bool, true, false, List, [], ◌∷◌, length, Option, Some, None, option_and_then}
use Rattle.lan_base.specs.declared.address.Sci.{Sci}
use Rattle.lan_base.specs.declared.association_number.AssociationNumber.{AssociationNumber}
use Rattle.lan_base.specs.AssociationNumbers.{same_an}
use Rattle.lan_base.specs.Identifiers.{same_sci}
use Rattle.mkpdu_codec.specs.declared.offset.ConfidentialityOffset.{ConfidentialityOffset}
use Rattle.mkpdu_codec.specs.declared.offset.ConfidentialityOffset.TheVariants as offsets
use Rattle.known_keys.specs.declared.sender.Sender.{Sender}
use Rattle.known_keys.specs.declared.sender.Sender.TheVariants.{Any, One}
use Rattle.known_keys.specs.declared.giving.Giving.TheVariants.{Key}
use Rattle.known_keys.specs.Numbered.{greatest_first, number_in}
use Rattle.known_keys.specs.History.{Entry, Set, Gave, keys, sak_of}

-- whether both are any sender, or the same one
abbrev pub same_sender : Sender → Sender → Bool
same_sender Any Any = true
same_sender (One a) (One b) = same_sci a b
same_sender _ _ = false

-- whether frames are opened under a key that is given with this offset: all user data is in secret, or none
abbrev pub is_open : ConfidentialityOffset → Bool
is_open offsets.None = true
is_open offsets.Octets0 = true
is_open _ = false

-- whether an entry tells a key for these senders, any or one, under an association number
abbrev pub is_for : Sender → AssociationNumber → Entry → Bool
is_for who an (Set sender its_an sak) = same_sender sender who && same_an its_an an
is_for who an (Gave packet nanos group id its_an (Key offset sak)) =
    is_open offset && (same_sender Any who && same_an its_an an)
is_for who an _ = false

-- the number of the SAK that an entry tells
abbrev pub number_told : List Entry → Entry → Option ℕ
number_told before entry = option_and_then (number_in (keys (entry ∷ before))) (sak_of entry)

abbrev pub is_it : Option ℕ → ℕ → Bool
is_it None n = false
is_it (Some number) n = number == n

-- whether the key of a number was told for these senders under an association number
abbrev pub is_told : List Entry → Sender → AssociationNumber → ℕ → Bool
is_told [] who an n = false
is_told (entry ∷ before) who an n =
    (is_for who an entry && is_it (number_told before entry) n) || is_told before who an n

-- the keys known to a frame of a sender under an association number: those that were told for any sender or
-- for this one, by their numbers, the newest first
abbrev pub known : List Entry → Sci → AssociationNumber → List ℕ
known history sci an =
    greatest_first (λ n. is_told history Any an n || is_told history (One sci) an n)
    (length (keys history))
