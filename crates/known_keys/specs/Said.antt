-- What was said of keys before: by the packets of a group, and by all.
use Rattle.std.specs.Prelude.{ℕ, ◌==◌, ◌&&◌, Bool, List, [], ◌∷◌, map, Option, Some, None, option_map}
use Rattle.std.specs.List.{list_any}
use Rattle.lan_base.specs.declared.address.Mi.{Mi}
use Rattle.lan_base.specs.declared.association_number.AssociationNumber.{AssociationNumber}
use Rattle.lan_base.specs.declared.key_id.KeyId.{KeyId}
use Rattle.lan_base.specs.AssociationNumbers.{number_of}
use Rattle.lan_base.specs.Identifiers.{same_mi}
use Rattle.mkpdu_codec.specs.declared.offset.ConfidentialityOffset.{ConfidentialityOffset}
use Rattle.mkpdu_codec.specs.Offsets.{offset_bits}
use Rattle.known_keys.specs.declared.giving.Giving.TheVariants.{Key}
use Rattle.known_keys.specs.History.{Entry, Gave}
use Rattle.known_keys.specs.Known.{number_told}

-- an identifier, and the association number and the key that it names
abbrev pub Naming : Type 0
Naming = (Mi × ℕ) × (ℕ × ℕ)

-- a naming in a group, with the confidentiality offset
abbrev pub Statement : Type 0
Statement = ℕ × (Naming × ℕ)

abbrev pub naming_of : KeyId → AssociationNumber → ℕ → Naming
naming_of id an key = ((id.server, id.number), (number_of an, key))

abbrev pub statement_of : ℕ → KeyId → AssociationNumber → ConfidentialityOffset → ℕ → Statement
statement_of group id an offset key = (group, (naming_of id an key, offset_bits offset))

-- what an entry says, if it gives a key
abbrev pub says : List Entry → Entry → Option Statement
says before (Gave packet nanos group id an (Key offset sak)) =
    option_map (statement_of group id an offset)
    (number_told before (Gave packet nanos group id an (Key offset sak)))
says before _ = None

abbrev pub with_said : Option Statement → List Statement → List Statement
with_said None statements = statements
with_said (Some statement) statements = statement ∷ statements

-- what was said, the newest first
abbrev pub statements : List Entry → List Statement
statements [] = []
statements (entry ∷ before) = with_said (says before entry) (statements before)

-- what was said of identifiers, in whatever group and with whatever offset
abbrev pub namings : List Entry → List Naming
namings history = map (λ statement. statement.1.0) (statements history)

abbrev pub same_naming : Naming → Naming → Bool
same_naming a b = (same_mi a.0.0 b.0.0 && (a.0.1 == b.0.1)) && ((a.1.0 == b.1.0) && (a.1.1 == b.1.1))

abbrev pub same_statement : Statement → Statement → Bool
same_statement a b = (a.0 == b.0) && (same_naming a.1.0 b.1.0 && (a.1.1 == b.1.1))

-- this was said of a group
abbrev pub is_said : List Entry → Statement → Bool
is_said history it = list_any (λ statement. same_statement statement it) (statements history)

-- this was said of an identifier
abbrev pub is_named_so : List Entry → Naming → Bool
is_named_so history it = list_any (λ naming. same_naming naming it) (namings history)
