-- Whether an MKPDU is of a member.
use Rattle.std.proofs.Common.{◌≡◌, ◌∙◌, ℕ, true, List, refl, sym}
use Rattle.std.specs.Prelude.{nat_eq, ◌==◌}
use Rattle.std.proofs.lemmas.Bool.{and_parts, eqb-true, eq-eqb}
use Rattle.std.proofs.lemmas.Cmp.{nat_list_eq_equiv}
use Rattle.std.proofs.lemmas.Map.Lookups.{exact_bytes}
use Rattle.std.specs.Cmp.Lexicographic.{slice_cmp, texts_ties}
use Rattle.std.specs.Ordering.{nat_cmp}
use lib.Pointwise.{pointwise}
use Rattle.lan_base.specs.declared.address.Mi.{Mi}
use Rattle.lan_base.specs.Identifiers.{same_mi}
use Rattle.member_notes.specs.declared.mkpdu.RightMkpdu.{RightMkpdu}
use Rattle.member_notes.specs.Mkpdus.{is_of}
use Rattle.member_notes.proofs.Firsts.{equal}

pub same-lists : (a b : List ℕ) → pointwise nat_eq a b ≡ true → a ≡ b
same-lists a b e = exact_bytes a b (equal (slice_cmp nat_cmp a b) (sym (texts_ties a b) ∙ e))

pub list-itself : (a : List ℕ) → pointwise nat_eq a a ≡ true
list-itself a = nat_list_eq_equiv.refl a

pub mi-of : (a b : Mi) → a.0 ≡ b.0 → a ≡ b
mi-of a b e = λ t. record { 0 = e t }

pub of-itself : (e : RightMkpdu) → is_of e.group e.mi e ≡ true
of-itself e = rw (eq-eqb e.group e.group refl, list-itself e.mi.0) refl

pub is-of : (group : ℕ) (mi : Mi) (e : RightMkpdu) → is_of group mi e ≡ true → (e.group ≡ group) × (e.mi ≡ mi)
is-of group mi e is =
    let both = and_parts (e.group == group) (same_mi e.mi mi) is in
    (eqb-true e.group group both.0, mi-of e.mi mi (same-lists e.mi.0 mi.0 both.1))
