-- What packets gave, and one packet more.
use Rattle.std.proofs.Common.{◌≡◌, ◌≢◌, ◌∙◌, ◌<◌, ◌≤◌, ◌⊎◌, inl, inr, ℕ, Bool, true, false, cond, not, List, ◌∷◌, Option, Some, None, refl, sym, ap, arith}
use Rattle.std.specs.Prelude.{◌==◌, IfSome, option_map}
use Rattle.std.specs.Option.{option_or}
use Rattle.std.specs.Cmp.Lexicographic.{slice_cmp, texts_ties}
use Rattle.std.specs.Ordering.{nat_cmp}
use Rattle.std.proofs.lemmas.Bool.{and_parts, and_from, eqb-true, eq-eqb, ne_eqb, cases_eq}
use Rattle.std.proofs.lemmas.Cmp.{nat_list_eq_equiv}
use Rattle.std.proofs.lemmas.Map.Lookups.{exact_bytes}
use Rattle.lan_base.specs.declared.address.Mi.{Mi}
use Rattle.lan_base.specs.declared.key_id.KeyId.{KeyId}
use Rattle.lan_base.specs.declared.association_number.AssociationNumber.{AssociationNumber}
use Rattle.lan_base.specs.Identifiers.{same_mi}
use Rattle.lan_base.specs.AssociationNumbers.{same_an}
use Rattle.mkpdu_codec.specs.declared.offset.ConfidentialityOffset.{ConfidentialityOffset}
use Rattle.least_pairs.specs.Pairs.{IsJudged, Noted, IsOneMore}
use Rattle.known_keys.specs.declared.gives.Gives.{Gives}
use Rattle.known_keys.specs.declared.givings.Others.{Others}
use Rattle.known_keys.specs.declared.named.Named.{Named}
use Rattle.known_keys.specs.declared.said.Fresh.{Fresh}
use Rattle.known_keys.specs.History.{Entry}
use Rattle.known_keys.specs.OneKey.{BreaksOneKey, first_identified, first_named, gives, given, given_or, identified_by, key_given, named_by, other_first, same_id, same_named, turned}
use Rattle.known_keys.specs.Said.{Statement, is_named_so, is_said, statement_of}
use Rattle.known_keys.specs.Telling.{told_of}
use Rattle.known_keys.specs.Standing.{IsOneKey, IsSaid}
use Rattle.known_keys.specs.Maps.{Firsts, Sets, first_giving, first_naming}
use Rattle.known_keys.specs.inside.Firsts.{IsGiven}
use Rattle.known_keys.specs.inside.Sets.{IsPut}
use Rattle.known_keys.proofs.SakNumbers.{equal}
use Rattle.known_keys.proofs.Stands.{an-same, an-itself}
use Rattle.known_keys.proofs.FirstTold.{Agrees, first-after, noted-more}

-- ---- what is the same

pub mi-is : (a b : Mi) → same_mi a b ≡ true → a ≡ b
mi-is a b e = ap (λ (xs : List ℕ). mi_of xs) (exact_bytes a.0 b.0 (equal (slice_cmp nat_cmp a.0 b.0) (sym (texts_ties a.0 b.0) ∙ e)))
  where
    mi_of : List ℕ → Mi
    mi_of xs = record { 0 = xs }

pub id-is : (a b : KeyId) → same_id a b ≡ true → a ≡ b
id-is a b e =
    let both = and_parts (same_mi a.server b.server) (a.number == b.number) e in
    ap (λ (s : Mi). id_of s a.number) (mi-is a.server b.server both.0)
    ∙ ap (λ (n : ℕ). id_of b.server n) (eqb-true a.number b.number both.1)
  where
    id_of : Mi → ℕ → KeyId
    id_of s n = record { server = s; number = n }

id-itself : (a : KeyId) → same_id a a ≡ true
id-itself a = and_from (same_mi a.server a.server) (a.number == a.number) (nat_list_eq_equiv.refl a.server.0) (eq-eqb a.number a.number refl)

named-is : (a b : Named) → same_named a b ≡ true → a ≡ b
named-is a b e =
    let both = and_parts (same_an a.an b.an) (a.key == b.key) e in
    ap (λ (an : AssociationNumber). named_of an a.key) (an-same a.an b.an both.0)
    ∙ ap (λ (n : ℕ). named_of b.an n) (eqb-true a.key b.key both.1)
  where
    named_of : AssociationNumber → ℕ → Named
    named_of an n = record { an = an; key = n }

named-itself : (a : Named) → same_named a a ≡ true
named-itself a = and_from (same_an a.an a.an) (a.key == a.key) (an-itself a.an) (eq-eqb a.key a.key refl)

agrees-from : (V : Type 0) (agree : V → V → Bool) → ((a b : V) → agree a b ≡ true → a ≡ b)
    → ((a : V) → agree a a ≡ true) → Agrees V agree
agrees-from V agree is itself = record {
  itself = λ u v e. ap (λ (x : V). agree u x) (sym e) ∙ itself u;
  joins = λ u v w e f. ap (λ (x : V). agree v x) (sym (is u w f) ∙ is u v e) ∙ itself v;
}

id-agrees : Agrees KeyId same_id
id-agrees = agrees-from KeyId same_id id-is id-itself

named-agrees : Agrees Named same_named
named-agrees = agrees-from Named same_named named-is named-itself

id-dec : (a b : KeyId) → (a ≡ b) ⊎ (a ≢ b)
id-dec a b = go (same_id a b) refl
  where
    go : (c : Bool) → same_id a b ≡ c → (a ≡ b) ⊎ (a ≢ b)
    go true e = inl (id-is a b e)
    go false e = inr (λ same. absurd (cc (ap (λ (x : KeyId). same_id a x) same ∙ e, id-itself a)))

-- ---- one packet more

given-more : (history : List Entry) (entry : Entry) (packet : ℕ) (it : KeyId × Named)
    → gives history entry ≡ Some (packet, it)
    → ((m : ℕ) (was : KeyId × Named) → given history m ≡ Some was → m < packet)
    → IsOneMore KeyId Named (given history) (given (entry ∷ history)) packet (Some it)
given-more history entry packet it told within = record {
  here = ap (λ (g : Option (ℕ × (KeyId × Named))). given_or g packet (given history packet)) told
      ∙ ap (λ b. cond b (Some it) (given history packet)) (eq-eqb packet packet refl);
  kept = λ m apart. ap (λ (g : Option (ℕ × (KeyId × Named))). given_or g m (given history m)) told
      ∙ ap (λ b. cond b (Some it) (given history m)) (ne_eqb packet m (λ e. apart (sym e)));
  within = within;
}

from-turned : (o : Option (KeyId × Named)) (kv : ℕ × KeyId) → option_map turned o ≡ Some kv
    → (it : KeyId × Named) × (o ≡ Some it)
from-turned None kv e = absurd (cc e)
from-turned (Some it) kv e = (it, refl)

key-more : (f g : Noted KeyId Named) (packet : ℕ) (it : KeyId × Named)
    → IsOneMore KeyId Named f g packet (Some it)
    → IsOneMore ℕ KeyId (λ m. option_map turned (f m)) (λ m. option_map turned (g m)) packet (Some (turned it))
key-more f g packet it more = record {
  here = ap (λ (o : Option (KeyId × Named)). option_map turned o) more.here;
  kept = λ m apart. ap (λ (o : Option (KeyId × Named)). option_map turned o) (more.kept m apart);
  within = λ m kv e. let was = from-turned (f m) kv e in more.within m was.0 was.1;
}

pub one-key-more : (history : List Entry) (entry : Entry) (packet : ℕ) (id : KeyId) (named : Named)
    (old new : Firsts) (others : Others) → gives history entry ≡ Some (packet, (id, named))
    → IsOneKey history old → old.last < packet → IsGiven packet id named old new others
    → IsOneKey (entry ∷ history) new
one-key-more history entry packet id named old new others told are above is =
    let more = given-more history entry packet (id, named) told
    (λ m was e. let w = are.within m was e in omega (arith, w, above)) in
    let by_name = noted-more KeyId Named same_named named-agrees id-dec (given history) (given (entry ∷ history)) packet id named
    more (first_naming old.names) (first_naming new.names) old.name_pair new.name_pair others.name are.names are.name_pair is.name in
    let by_key = noted-more ℕ KeyId same_id id-agrees cases_eq (key_given history) (key_given (entry ∷ history)) packet named.key id
    (key-more (given history) (given (entry ∷ history)) packet (id, named) more)
    (first_giving old.ids) (first_giving new.ids) old.id_pair new.id_pair others.id are.ids are.id_pair is.key in
    let last = is.last in
    record {
      names = by_name.0;
      ids = by_key.0;
      first_names = λ q.
          first-after KeyId Named same_id id-is id-itself (first_naming old.names) (first_naming new.names) packet id named
          (first_naming old.names id) refl is.name.finds q
          ∙ ap (λ (o : Option (ℕ × Named)). option_or o (cond (same_id id q) (Some (packet, named)) None)) (are.first_names q)
          ∙ ap (λ (g : Option (ℕ × (KeyId × Named))). option_or (first_named history q) (named_by q g)) (sym told);
      first_ids = λ q.
          first-after ℕ KeyId (λ m n. m == n) eqb-true (λ n. eq-eqb n n refl) (first_giving old.ids) (first_giving new.ids) packet
          named.key id (first_giving old.ids named.key) refl is.key.finds q
          ∙ ap (λ (o : Option (ℕ × KeyId)). option_or o (cond (named.key == q) (Some (packet, id)) None)) (are.first_ids q)
          ∙ ap (λ (g : Option (ℕ × (KeyId × Named))). option_or (first_identified history q) (identified_by q g)) (sym told);
      name_pair = by_name.1;
      id_pair = by_key.1;
      within = λ m it e. at m it e last more (cases_eq m packet);
    }
  where
    at : (m : ℕ) (it : KeyId × Named) → given (entry ∷ history) m ≡ Some it → new.last ≡ packet
        → IsOneMore KeyId Named (given history) (given (entry ∷ history)) packet (Some (id, named))
        → (m ≡ packet) ⊎ (m ≢ packet) → m ≤ new.last
    at m it e last more (inl same) = omega (arith, same, last)
    at m it e last more (inr apart) =
        let less = more.within m it (sym (more.kept m apart) ∙ e) in omega (arith, less, last)

-- ---- what is told of it

abbrev pub gives_of : ℕ → Bool → Bool → Option ℕ → Option ℕ → Gives
gives_of key is_new is_new_naming other_name other_id = record {
  key = key;
  is_new = is_new;
  is_new_naming = is_new_naming;
  other_name = other_name;
  other_id = other_id;
}

pub told-is : (history : List Entry) (group : ℕ) (id : KeyId) (an : AssociationNumber) (offset : ConfidentialityOffset)
    (key packet : ℕ) (old new : Firsts) (others : Others) (said then : Sets) (fresh : Fresh) → IsOneKey history old
    → IsSaid history said → IsGiven packet id (record { an = an; key = key }) old new others
    → IsPut (statement_of group id an offset key) said then fresh
    → gives_of key fresh.statement fresh.naming others.name others.id ≡ told_of history group id an offset key
told-is history group id an offset key packet old new others said then fresh are were noted put =
    ap (λ b. gives_of key b fresh.naming others.name others.id) (put.new_statement ∙ ap not (were.by_group statement))
    ∙ ap (λ b. gives_of key new_statement b others.name others.id) (put.new_naming ∙ ap not (were.by_all statement.1.0))
    ∙ ap (λ (o : Option ℕ). gives_of key new_statement new_naming o others.id)
    (noted.name.answers ∙ ap (λ (o : Option (ℕ × Named)). other_first Named same_named named o) (are.first_names id))
    ∙ ap (λ (o : Option ℕ). gives_of key new_statement new_naming (other_first Named same_named named (first_named history id)) o)
    (noted.key.answers ∙ ap (λ (o : Option (ℕ × KeyId)). other_first KeyId same_id id o) (are.first_ids key))
  where
    statement : Statement
    statement = statement_of group id an offset key

    named : Named
    named = record { an = an; key = key }

    new_statement : Bool
    new_statement = not (is_said history statement)

    new_naming : Bool
    new_naming = not (is_named_so history statement.1.0)

-- a pair that breaks stands in order, up to the last packet
pub in-order : (history : List Entry) (firsts : Firsts) → IsOneKey history firsts → (a b : ℕ)
    → BreaksOneKey history a b → (a < b) × (b ≤ firsts.last)
in-order history firsts are a b (inl broken) = (broken.order, are.within b (broken.key, broken.other) broken.second)
in-order history firsts are a b (inr broken) =
    let was = from-turned (given history b) (broken.key, broken.other) broken.second in
    (broken.order, are.within b was.0 was.1)

pub if-judged : (Broken : ℕ → ℕ → Type 0) (Q : ℕ × ℕ → Type 0) (o : Option (ℕ × ℕ))
    → ((pair : ℕ × ℕ) → Broken pair.0 pair.1 → Q pair) → IsJudged Broken o → IfSome o Q
if-judged Broken Q None f judged = tt
if-judged Broken Q (Some pair) f judged = f pair judged.broken
