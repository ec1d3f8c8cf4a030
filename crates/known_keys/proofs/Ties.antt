-- The orders of the maps and sets tie just those that are the same.
use Rattle.std.proofs.Common.{◌≡◌, ◌∙◌, ℕ, Bool, true, false, refl, sym, ap}
use Rattle.std.specs.Prelude.{◌==◌, ◌&&◌}
use Rattle.std.specs.BTreeMap.{is_at}
use Rattle.std.specs.Cmp.{nat_cmp_is}
use Rattle.std.specs.Cmp.Lexicographic.{slice_cmp, texts_ties}
use Rattle.std.specs.Ordering.{nat_cmp, is_eq, ordering_then}
use Rattle.std.specs.declared.cmp.Ordering.{Ordering}
use Rattle.std.specs.declared.cmp.Ordering.TheVariants.{Less, Equal, Greater}
use Rattle.std.proofs.lemmas.Bool.{eqb-true, eq-eqb}
use Rattle.std.proofs.lemmas.Map.Lookups.{CmpEqualImpliesEq, exact_pairs, exact_unsigned}
use Rattle.lan_base.specs.declared.address.Mi.{Mi}
use Rattle.lan_base.specs.declared.address.Sci.{Sci}
use Rattle.lan_base.specs.Identifiers.{same_mi, same_sci}
use Rattle.known_keys.specs.Maps.{group_id_cmp, id_cmp, naming_cmp, offset_cmp, pair_cmp, sci_cmp, statement_cmp}
use Rattle.known_keys.specs.Said.{Naming, Statement, same_naming, same_statement}
use Rattle.known_keys.specs.Undecided.{GroupId, same_group_id}
use Rattle.known_keys.proofs.NamePuts.{exact_id}
use Rattle.known_keys.proofs.SakNumbers.{equal}

pub same-bool : (b c : Bool) → (b ≡ true → c ≡ true) → (c ≡ true → b ≡ true) → b ≡ c
same-bool true true f g = refl
same-bool true false f g = sym (f refl)
same-bool false true f g = g refl
same-bool false false f g = refl

-- ---- by parts

then-ties : (o p : Ordering) (b c : Bool) → is_eq o ≡ b → is_eq p ≡ c → is_eq (ordering_then o p) ≡ (b && c)
then-ties o p b c e f = go o ∙ ap (λ x. x && is_eq p) e ∙ ap (λ x. b && x) f
  where
    go : (o : Ordering) → is_eq (ordering_then o p) ≡ (is_eq o && is_eq p)
    go Less = refl
    go Equal = refl
    go Greater = refl

nat-ties : (m n : ℕ) → is_eq (nat_cmp m n) ≡ (m == n)
nat-ties m n =
    same-bool (is_eq (nat_cmp m n)) (m == n)
    (λ e. eq-eqb m n (exact_unsigned m n (equal (nat_cmp m n) e)))
    (λ e. ap is_eq (sym (nat_cmp_is m n Equal (eqb-true m n e))))

pair-ties : (a b : ℕ × ℕ) → is_eq (pair_cmp a b) ≡ ((a.0 == b.0) && (a.1 == b.1))
pair-ties a b =
    then-ties (nat_cmp a.0 b.0) (nat_cmp a.1 b.1) (a.0 == b.0) (a.1 == b.1) (nat-ties a.0 b.0) (nat-ties a.1 b.1)

-- ---- senders, and what was said

pub sci-ties : (s t : Sci) → is_at (sci_cmp s) t ≡ same_sci s t
sci-ties s t = sym (texts_ties s.0 t.0)

id-ties : (a b : Mi × ℕ) → is_eq (id_cmp a b) ≡ (same_mi a.0 b.0 && (a.1 == b.1))
id-ties a b =
    then-ties (slice_cmp nat_cmp a.0.0 b.0.0) (nat_cmp a.1 b.1) (same_mi a.0 b.0) (a.1 == b.1)
    (sym (texts_ties a.0.0 b.0.0)) (nat-ties a.1 b.1)

pub naming-ties : (a b : Naming) → is_at (naming_cmp a) b ≡ same_naming a b
naming-ties a b =
    then-ties (id_cmp a.0 b.0) (pair_cmp a.1 b.1) (same_mi a.0.0 b.0.0 && (a.0.1 == b.0.1))
    ((a.1.0 == b.1.0) && (a.1.1 == b.1.1)) (id-ties a.0 b.0) (pair-ties a.1 b.1)

pub statement-ties : (a b : Statement) → is_at (statement_cmp a) b ≡ same_statement a b
statement-ties a b =
    then-ties (nat_cmp a.0 b.0) (offset_cmp a.1 b.1) (a.0 == b.0) (same_naming a.1.0 b.1.0 && (a.1.1 == b.1.1))
    (nat-ties a.0 b.0)
    (then-ties (naming_cmp a.1.0 b.1.0) (nat_cmp a.1.1 b.1.1) (same_naming a.1.0 b.1.0) (a.1.1 == b.1.1)
    (naming-ties a.1.0 b.1.0) (nat-ties a.1.1 b.1.1))

-- ---- identifiers in groups

pub ties : (a b : GroupId) → is_at (group_id_cmp a) b ≡ same_group_id a b
ties a b =
    then-ties (nat_cmp a.0 b.0) (id_cmp a.1 b.1) (a.0 == b.0) (same_mi a.1.0 b.1.0 && (a.1.1 == b.1.1))
    (nat-ties a.0 b.0) (id-ties a.1 b.1)

pub exact_group_id : CmpEqualImpliesEq group_id_cmp
exact_group_id a b e = exact_pairs nat_cmp id_cmp exact_unsigned exact_id a b e

pub at-is : (k q : GroupId) → is_at (group_id_cmp k) q ≡ true → k ≡ q
at-is k q e = exact_group_id k q (equal (group_id_cmp k q) e)
