-- The orders of the maps and sets tie just those that are the same.
use Rattle.std.proofs.Common.{◌≡◌, ◌∙◌, ℕ, Bool, true, false, List, refl, sym, ap}
use Rattle.std.specs.Prelude.{◌==◌, ◌&&◌, nat_eq}
use Rattle.std.specs.BTreeMap.{is_at}
use Rattle.std.specs.Cmp.{nat_cmp_is}
use Rattle.std.specs.Cmp.Lexicographic.{slice_cmp, texts_ties}
use Rattle.std.specs.Ordering.{nat_cmp, is_eq, ordering_then}
use Rattle.std.specs.declared.cmp.Ordering.{Ordering}
use Rattle.std.specs.declared.cmp.Ordering.TheVariants.{Less, Equal, Greater}
use Rattle.std.proofs.lemmas.Bool.{eqb-true, eq-eqb}
use Rattle.std.proofs.lemmas.Cmp.{nat_list_eq_equiv}
use Rattle.std.proofs.lemmas.Map.Lookups.{CmpEqualImpliesEq, exact_pairs, exact_unsigned, exact_bytes}
use lib.Pointwise.{pointwise}
use Rattle.lan_base.specs.declared.address.Mi.{Mi}
use Rattle.lan_base.specs.declared.address.Sci.{Sci}
use Rattle.lan_base.specs.Identifiers.{order, same_mi, same_sci}
use Rattle.member_notes.specs.Standing.{member_cmp}
use Rattle.rollover_notes.specs.Givings.{GroupId, same_group_id}
use Rattle.rollover_notes.specs.Speaking.{Member}
use Rattle.rollover_notes.specs.Counted.{Pair, pair_cmp}
use Rattle.rollover_notes.specs.Standing.{group_id_cmp, group_key_cmp, member_key_cmp, number_sci_cmp}

pub equal : (o : Ordering) → is_eq o ≡ true → o ≡ Equal
equal Less e = absurd (cc e)
equal Equal e = refl
equal Greater e = absurd (cc e)

pub same-bool : (b c : Bool) → (b ≡ true → c ≡ true) → (c ≡ true → b ≡ true) → b ≡ c
same-bool true true f g = refl
same-bool true false f g = sym (f refl)
same-bool false true f g = g refl
same-bool false false f g = refl

then-ties : (o p : Ordering) (b c : Bool) → is_eq o ≡ b → is_eq p ≡ c → is_eq (ordering_then o p) ≡ (b && c)
then-ties o p b c e f = go o ∙ ap (λ x. x && is_eq p) e ∙ ap (λ x. b && x) f
  where
    go : (o : Ordering) → is_eq (ordering_then o p) ≡ (is_eq o && is_eq p)
    go Less = refl
    go Equal = refl
    go Greater = refl

pub nat-ties : (m n : ℕ) → is_eq (nat_cmp m n) ≡ (m == n)
nat-ties m n =
    same-bool (is_eq (nat_cmp m n)) (m == n)
    (λ e. eq-eqb m n (exact_unsigned m n (equal (nat_cmp m n) e)))
    (λ e. ap is_eq (sym (nat_cmp_is m n Equal (eqb-true m n e))))

mi-ties : (a b : Mi) → is_eq (order a b) ≡ same_mi a b
mi-ties a b = sym (texts_ties a.0 b.0)

pub member-ties : (a b : Member) → is_at (member_cmp a) b ≡ ((a.0 == b.0) && same_mi a.1 b.1)
member-ties a b =
    then-ties (nat_cmp a.0 b.0) (order a.1 b.1) (a.0 == b.0) (same_mi a.1 b.1) (nat-ties a.0 b.0) (mi-ties a.1 b.1)

pub number-sci-ties : (a b : ℕ × Sci) → is_at (number_sci_cmp a) b ≡ ((a.0 == b.0) && same_sci a.1 b.1)
number-sci-ties a b =
    then-ties (nat_cmp a.0 b.0) (slice_cmp nat_cmp a.1.0 b.1.0) (a.0 == b.0) (same_sci a.1 b.1) (nat-ties a.0 b.0)
    (sym (texts_ties a.1.0 b.1.0))

pub group-key-ties : (a b : ℕ × ℕ) → is_at (group_key_cmp a) b ≡ ((a.0 == b.0) && (a.1 == b.1))
group-key-ties a b =
    then-ties (nat_cmp a.0 b.0) (nat_cmp a.1 b.1) (a.0 == b.0) (a.1 == b.1) (nat-ties a.0 b.0) (nat-ties a.1 b.1)

pub group-id-ties : (a b : GroupId) → is_at (group_id_cmp a) b ≡ same_group_id a b
group-id-ties a b =
    then-ties (nat_cmp a.0 b.0) (ordering_then (order a.1.0 b.1.0) (nat_cmp a.1.1 b.1.1)) (a.0 == b.0)
    (same_mi a.1.0 b.1.0 && (a.1.1 == b.1.1)) (nat-ties a.0 b.0)
    (then-ties (order a.1.0 b.1.0) (nat_cmp a.1.1 b.1.1) (same_mi a.1.0 b.1.0) (a.1.1 == b.1.1) (mi-ties a.1.0 b.1.0)
    (nat-ties a.1.1 b.1.1))

pub pair-ties : (a b : Pair) → is_at (pair_cmp a) b ≡ ((a.0 == b.0) && ((a.1.0 == b.1.0) && same_mi a.1.1 b.1.1))
pair-ties a b =
    then-ties (nat_cmp a.0 b.0) (member_cmp a.1 b.1) (a.0 == b.0) ((a.1.0 == b.1.0) && same_mi a.1.1 b.1.1)
    (nat-ties a.0 b.0) (member-ties a.1 b.1)

-- ---- what ties is the same

mi-of : (a b : Mi) → a.0 ≡ b.0 → a ≡ b
mi-of a b e = λ t. record { 0 = e t }

sci-of : (a b : Sci) → a.0 ≡ b.0 → a ≡ b
sci-of a b e = λ t. record { 0 = e t }

exact-mi : CmpEqualImpliesEq order
exact-mi a b e = mi-of a b (exact_bytes a.0 b.0 e)

exact-sci : CmpEqualImpliesEq (λ (a b : Sci). slice_cmp nat_cmp a.0 b.0)
exact-sci a b e = sci-of a b (exact_bytes a.0 b.0 e)

pub exact-number-sci : CmpEqualImpliesEq number_sci_cmp
exact-number-sci a b e = exact_pairs nat_cmp (λ (a b : Sci). slice_cmp nat_cmp a.0 b.0) exact_unsigned exact-sci a b e

exact-member : CmpEqualImpliesEq member_cmp
exact-member a b e = exact_pairs nat_cmp order exact_unsigned exact-mi a b e

pub exact-pair : CmpEqualImpliesEq pair_cmp
exact-pair a b e = exact_pairs nat_cmp member_cmp exact_unsigned exact-member a b e

pub exact-member-key : CmpEqualImpliesEq member_key_cmp
exact-member-key a b e = exact_pairs member_cmp nat_cmp exact-member exact_unsigned a b e

same-lists : (a b : List ℕ) → pointwise nat_eq a b ≡ true → a ≡ b
same-lists a b e = exact_bytes a b (equal (slice_cmp nat_cmp a b) (sym (texts_ties a b) ∙ e))

pub mi-is : (a b : Mi) → same_mi a b ≡ true → a ≡ b
mi-is a b e = mi-of a b (same-lists a.0 b.0 e)

pub sci-is : (a b : Sci) → same_sci a b ≡ true → a ≡ b
sci-is a b e = sci-of a b (same-lists a.0 b.0 e)

pub mi-itself : (a : Mi) → same_mi a a ≡ true
mi-itself a = nat_list_eq_equiv.refl a.0

pub sci-itself : (a : Sci) → same_sci a a ≡ true
sci-itself a = nat_list_eq_equiv.refl a.0
