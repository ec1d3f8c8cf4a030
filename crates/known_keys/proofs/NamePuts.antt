-- What an insertion changes of the first givings of identifiers.
use Rattle.std.proofs.Common.{◌≡◌, ℕ, List, Some, ap}
use Rattle.std.specs.Ordering.{nat_cmp}
use Rattle.std.proofs.lemmas.Map.Lookups.{CmpEqualImpliesEq, exact_pairs, exact_unsigned, exact_bytes}
use Rattle.lan_base.specs.declared.address.Mi.{Mi}
use Rattle.lan_base.specs.declared.key_id.KeyId.{KeyId}
use Rattle.lan_base.specs.Identifiers.{order}
use Rattle.known_keys.specs.declared.named.Named.{Named}
use Rattle.known_keys.specs.Maps.{Names, first_naming, id_cmp}
use Rattle.known_keys.specs.inside.Firsts.{IsFirst}
use Rattle.known_keys.proofs.ListPuts.{Changes, untouched}

exact_mi : CmpEqualImpliesEq order
exact_mi a b e = ap (λ (xs : List ℕ). mi_of xs) (exact_bytes a.0 b.0 e)
  where
    mi_of : List ℕ → Mi
    mi_of xs = record { 0 = xs }

pub exact_id : CmpEqualImpliesEq id_cmp
exact_id a b e = exact_pairs order nat_cmp exact_mi exact_unsigned a b e

pub name-first : (packet : ℕ) (id : KeyId) (named : Named) (old new : Names)
    → Changes id_cmp (id.server, id.number) (packet, named) old new → first_naming new id ≡ Some (packet, named)
    → IsFirst KeyId Named (first_naming old) (first_naming new) packet id named
name-first packet id named old new changes here = record {
  here = here;
  others = λ q apart. untouched id_cmp exact_id (id.server, id.number) (packet, named) old new changes
      (q.server, q.number) (λ same. apart (ap (λ (p : Mi × ℕ). id_of p) same));
}
  where
    id_of : Mi × ℕ → KeyId
    id_of p = record { server = p.0; number = p.1 }
