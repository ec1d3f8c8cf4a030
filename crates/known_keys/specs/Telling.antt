-- What is told of a key that a packet gives.
use Rattle.std.specs.Prelude.{ℕ, not, List}
use Rattle.lan_base.specs.declared.association_number.AssociationNumber.{AssociationNumber}
use Rattle.lan_base.specs.declared.key_id.KeyId.{KeyId}
use Rattle.mkpdu_codec.specs.declared.offset.ConfidentialityOffset.{ConfidentialityOffset}
use Rattle.known_keys.specs.declared.gives.Gives.{Gives}
use Rattle.known_keys.specs.declared.named.Named.{Named}
use Rattle.known_keys.specs.History.{Entry}
use Rattle.known_keys.specs.OneKey.{first_identified, first_named, other_first, same_id, same_named}
use Rattle.known_keys.specs.Said.{is_named_so, is_said, naming_of, statement_of}

-- of the key of this number that is given after this history, in a group, under an identifier and an association
-- number: whether that is said for the first time, of its group and of all, and the packets that gave its
-- identifier and the key first, where they gave another thing
abbrev pub told_of : List Entry → ℕ → KeyId → AssociationNumber → ConfidentialityOffset → ℕ → Gives
told_of history group id an offset key = record {
  key = key;
  is_new = not (is_said history (statement_of group id an offset key));
  is_new_naming = not (is_named_so history (naming_of id an key));
  other_name = other_first Named same_named (record { an = an; key = key }) (first_named history id);
  other_id = other_first KeyId same_id id (first_identified history key);
}
