-- A packet that gives a key is one entry more.
use Rattle.std.proofs.Common.{◌≡◌, ◌∙◌, ◌<◌, ℕ, Bool, true, false, List, ◌∷◌, Some, refl, sym, ap}
use Rattle.std.specs.Prelude.{◌&&◌, option_map}
use Rattle.lan_base.specs.declared.address.Sci.{Sci}
use Rattle.lan_base.specs.declared.association_number.AssociationNumber.{AssociationNumber}
use Rattle.lan_base.specs.declared.key_id.KeyId.{KeyId}
use Rattle.lan_base.specs.AssociationNumbers.{same_an}
use Rattle.aes_block.specs.declared.secret.Secret.{Secret}
use Rattle.mkpdu_codec.specs.declared.offset.ConfidentialityOffset.{ConfidentialityOffset}
use Rattle.known_keys.specs.declared.giving.Giving.TheVariants.{Key, Without}
use Rattle.known_keys.specs.declared.giving.NoSak.{NoSak}
use Rattle.known_keys.specs.declared.givings.Others.{Others}
use Rattle.known_keys.specs.declared.named.Named.{Named}
use Rattle.known_keys.specs.declared.said.Fresh.{Fresh}
use Rattle.known_keys.specs.declared.sender.Sender.{Sender}
use Rattle.known_keys.specs.declared.sender.Sender.TheVariants.{Any}
use Rattle.known_keys.specs.History.{Entry, Gave, Set, Showed, Strange, keys}
use Rattle.known_keys.specs.Known.{is_open, number_told, same_sender}
use Rattle.known_keys.specs.Standing.{IsOneKey, IsSaid, KeptKeys, StandsFor}
use Rattle.known_keys.specs.Maps.{Missed, Told}
use Rattle.known_keys.specs.inside.Steps.{IsKeyed, Opens}
use Rattle.known_keys.specs.Maps.{Firsts}
use Rattle.known_keys.specs.inside.Firsts.{IsGiven}
use Rattle.known_keys.proofs.Stands.{AreLists, keys-told, lists-stay, lists-told, quiet-stands}
use Rattle.known_keys.specs.Said.{statement_of}
use Rattle.known_keys.specs.Maps.{Sets}
use Rattle.known_keys.specs.inside.Sets.{IsPut}
use Rattle.known_keys.specs.OneKey.{first_identified, first_named}
use Rattle.known_keys.proofs.FirstTold.{or-none}
use Rattle.known_keys.proofs.Givens.{one-key-more}
use Rattle.known_keys.specs.Undecided.{group_id}
use Rattle.known_keys.specs.inside.Missing.{IsOffered, IsShown, IsStranger, IsWithheld}
use Rattle.known_keys.proofs.SaidMore.{said-more}
use Rattle.known_keys.proofs.MissingMore.{missed-offered, missed-showed, missed-strange, missed-withheld}

lists-given : (history : List Entry) (packet nanos group : ℕ) (id : KeyId) (an : AssociationNumber)
    (offset : ConfidentialityOffset) (sak : Secret) (number : ℕ) (old new : Told)
    → number_told history (Gave packet nanos group id an (Key offset sak)) ≡ Some number
    → (b : Bool) → is_open offset ≡ b → Opens b an number old new → AreLists history old
    → AreLists (Gave packet nanos group id an (Key offset sak) ∷ history) new
lists-given history packet nanos group id an offset sak number old new told true opens put are =
    lists-told history (Gave packet nanos group id an (Key offset sak)) old new Any an number put told
    (λ s a. ap (λ b. b && (same_sender Any s && same_an an a)) opens) are
lists-given history packet nanos group id an offset sak number old new told false closed stays are =
    lists-stay history (Gave packet nanos group id an (Key offset sak)) old new stays
    (λ s a. ap (λ b. b && (same_sender Any s && same_an an a)) closed) are

pub gave-stands : (history : List Entry) (packet nanos group : ℕ) (id : KeyId) (an : AssociationNumber)
    (offset : ConfidentialityOffset) (sak : Secret) (number : ℕ) (old new : KeptKeys) (others : Others) (fresh : Fresh)
    → StandsFor history old → old.firsts.last < packet → IsKeyed (keys history) sak number new.keys
    → Opens (is_open offset) an number old.lists new.lists
    → IsGiven packet id (record { an = an; key = number }) old.firsts new.firsts others
    → IsPut (statement_of group id an offset number) old.said new.said fresh
    → IsOffered an (group_id group id) nanos offset old.misses new.misses
    → StandsFor (Gave packet nanos group id an (Key offset sak) ∷ history) new
gave-stands history packet nanos group id an offset sak number old new others fresh stands above keyed opened given said offered =
    let entry = Gave packet nanos group id an (Key offset sak) in
    let both = keys-told history entry sak number new.keys refl keyed in
    record {
      are_kept = both.0;
      lists = lists-given history packet nanos group id an offset sak number old.lists new.lists both.1
          (is_open offset) refl opened stands.lists;
      one_key = one-key-more history entry packet id (record { an = an; key = number }) old.firsts new.firsts others
          (ap (option_map (λ (key : ℕ). (packet, (id, named key)))) both.1) stands.one_key above given;
      is_said = said-more history entry (statement_of group id an offset number) old.said new.said fresh
          (ap (option_map (statement_of group id an offset)) both.1) stands.is_said said;
      is_missed = missed-offered history packet nanos group id an offset sak old.misses new.misses offered stands.is_missed;
    }
  where
    named : ℕ → Named
    named key = record { an = an; key = key }

-- a key that is set by hand gives nothing
pub set-stays : (history : List Entry) (sender : Sender) (an : AssociationNumber) (sak : Secret) (firsts : Firsts)
    → IsOneKey history firsts → IsOneKey (Set sender an sak ∷ history) firsts
set-stays history sender an sak firsts are = record {
  names = are.names;
  ids = are.ids;
  first_names = λ id. are.first_names id ∙ sym (or-none (first_named history id));
  first_ids = λ key. are.first_ids key ∙ sym (or-none (first_identified history key));
  name_pair = are.name_pair;
  id_pair = are.id_pair;
  within = are.within;
}

pub set-says : (history : List Entry) (sender : Sender) (an : AssociationNumber) (sak : Secret) (said : Sets)
    → IsSaid history said → IsSaid (Set sender an sak ∷ history) said
set-says history sender an sak said are = record { by_group = are.by_group; by_all = are.by_all }

-- ---- entries that tell no SAK

pub withheld-stands : (history : List Entry) (packet nanos group : ℕ) (id : KeyId) (an : AssociationNumber)
    (why : NoSak) (old : KeptKeys) (missed : Missed) (is_first : Bool) → StandsFor history old
    → IsWithheld an (group_id group id) nanos why old.misses missed is_first
    → StandsFor (Gave packet nanos group id an (Without why) ∷ history) (record old { misses = missed })
withheld-stands history packet nanos group id an why old missed is_first stands put =
    let one = stands.one_key in
    let said = stands.is_said in
    quiet-stands history (Gave packet nanos group id an (Without why)) old missed refl (λ s a. refl) stands
    (record {
      names = one.names;
      ids = one.ids;
      first_names = λ q. one.first_names q ∙ sym (or-none (first_named history q));
      first_ids = λ q. one.first_ids q ∙ sym (or-none (first_identified history q));
      name_pair = one.name_pair;
      id_pair = one.id_pair;
      within = one.within;
    })
    (record { by_group = said.by_group; by_all = said.by_all })
    (missed-withheld history packet nanos group id an why old.misses missed is_first put stands.is_missed)

pub showed-stands : (history : List Entry) (packet nanos group : ℕ) (id : KeyId) (an : AssociationNumber)
    (old : KeptKeys) (missed : Missed) → StandsFor history old
    → IsShown an (group_id group id) nanos old.misses missed
    → StandsFor (Showed packet nanos group id an ∷ history) (record old { misses = missed })
showed-stands history packet nanos group id an old missed stands put =
    let one = stands.one_key in
    let said = stands.is_said in
    quiet-stands history (Showed packet nanos group id an) old missed refl (λ s a. refl) stands
    (record {
      names = one.names;
      ids = one.ids;
      first_names = λ q. one.first_names q ∙ sym (or-none (first_named history q));
      first_ids = λ q. one.first_ids q ∙ sym (or-none (first_identified history q));
      name_pair = one.name_pair;
      id_pair = one.id_pair;
      within = one.within;
    })
    (record { by_group = said.by_group; by_all = said.by_all })
    (missed-showed history packet nanos group id an old.misses missed put stands.is_missed)

pub strange-stands : (history : List Entry) (sci : Sci) (old : KeptKeys) (missed : Missed) → StandsFor history old
    → IsStranger sci old.misses missed
    → StandsFor (Strange sci ∷ history) (record old { misses = missed })
strange-stands history sci old missed stands put =
    let one = stands.one_key in
    let said = stands.is_said in
    quiet-stands history (Strange sci) old missed refl (λ s a. refl) stands
    (record {
      names = one.names;
      ids = one.ids;
      first_names = λ q. one.first_names q ∙ sym (or-none (first_named history q));
      first_ids = λ q. one.first_ids q ∙ sym (or-none (first_identified history q));
      name_pair = one.name_pair;
      id_pair = one.id_pair;
      within = one.within;
    })
    (record { by_group = said.by_group; by_all = said.by_all })
    (missed-strange history sci old.misses missed put stands.is_missed)
