-- What is kept of a member when one MKPDU more comes.
use Rattle.std.proofs.Common.{◌≡◌, ◌≢◌, ◌∙◌, ℕ, Bool, true, false, cond, List, ◌∷◌, Some, Result, Ok, Err, refl, sym, ap, subst}
use Rattle.std.specs.Prelude.{OnErr, IfOk}
use Rattle.std.specs.Map.{lookup}
use Rattle.std.specs.BTreeMap.{is_at}
use Rattle.std.specs.Ordering.{nat_cmp}
use Rattle.std.specs.Cmp.Lexicographic.{slice_cmp}
use Rattle.std.proofs.lemmas.Map.Lookups.{CmpEqualImpliesEq, exact_pairs, exact_unsigned, exact_bytes}
use Rattle.lan_base.specs.declared.address.Mi.{Mi}
use Rattle.member_notes.specs.declared.mkpdu.RightMkpdu.{RightMkpdu}
use Rattle.member_notes.specs.Mkpdus.{is_of, mkpdus_of}
use Rattle.member_notes.specs.Standing.{KeptOfMember, Keeps, KeepsSome, Members, StandsFor, kept_at, member_cmp}
use Rattle.member_notes.specs.inside.Putting.{IsPutAt}
use Rattle.member_notes.proofs.Firsts.{Changes, untouched}
use Rattle.member_notes.proofs.Same.{mi-of, of-itself, is-of}

exact-mi : CmpEqualImpliesEq (λ (a b : Mi). slice_cmp nat_cmp a.0 b.0)
exact-mi a b e = mi-of a b (exact_bytes a.0 b.0 e)

pub exact-member : CmpEqualImpliesEq member_cmp
exact-member a b e = exact_pairs nat_cmp (λ (a b : Mi). slice_cmp nat_cmp a.0 b.0) exact_unsigned exact-mi a b e

-- what is kept under a member was put
pub put-at : (at : ℕ × Mi) (ms : List RightMkpdu) (kept : KeptOfMember) (old new : Members) → Keeps ms kept
    → Changes member_cmp at kept old new → lookup (is_at (member_cmp at)) new ≡ Some kept
    → IsPutAt at ms old new
put-at at ms kept old new keeps changes here = record {
  kept = kept;
  here = here;
  keeps = keeps;
  others = λ other apart. untouched member_cmp exact-member at kept old new changes other apart;
}

pub mkpdus-with : (group : ℕ) (mi : Mi) (e : RightMkpdu) (h : List RightMkpdu) (b : Bool) → is_of group mi e ≡ b
    → mkpdus_of group mi (e ∷ h) ≡ cond b (e ∷ mkpdus_of group mi h) (mkpdus_of group mi h)
mkpdus-with group mi e h b is = ap (λ c. cond c (e ∷ mkpdus_of group mi h) (mkpdus_of group mi h)) is

-- ---- all

pub noted : (e : RightMkpdu) (h : List RightMkpdu) (old new : Members) → StandsFor h old
    → IsPutAt (e.group, e.mi) (e ∷ mkpdus_of e.group e.mi h) old new → StandsFor (e ∷ h) new
noted e h old new stands put group mi = go group mi (is_of group mi e) refl
  where
    no : false ≡ true → ⊥
    no is = cc is

    go : (group : ℕ) (mi : Mi) (b : Bool) → is_of group mi e ≡ b
        → KeepsSome (mkpdus_of group mi (e ∷ h)) (kept_at new group mi)
    go group mi true is =
        let both = is-of group mi e is in
        subst (λ ms. KeepsSome ms (kept_at new group mi)) (sym (mkpdus-with group mi e h true is))
        (subst (λ (at : ℕ × Mi). KeepsSome (e ∷ mkpdus_of at.0 at.1 h) (kept_at new at.0 at.1))
        (λ t. (both.0 t, both.1 t))
        (subst (λ o. KeepsSome (e ∷ mkpdus_of e.group e.mi h) o) (sym put.here) put.keeps))
    go group mi false is =
        let other : (group, mi) ≢ (e.group, e.mi) = λ same.
        no (sym is ∙ ap (λ (at : ℕ × Mi). is_of at.0 at.1 e) same ∙ of-itself e) in
        subst (λ ms. KeepsSome ms (kept_at new group mi)) (sym (mkpdus-with group mi e h false is))
        (subst (λ o. KeepsSome (mkpdus_of group mi h) o) (sym (put.others (group, mi) other)) (stands group mi))

-- ---- results

pub on_err : {T E P Q : Type 0} (r : Result T E) → (P → Q) → OnErr r P → OnErr r Q
on_err (Ok x) f p = tt
on_err (Err e) f p = f p

pub if_ok : {T E : Type 0} {P Q : T → Type 0} (r : Result T E) → ((x : T) → P x → Q x) → IfOk r P → IfOk r Q
if_ok (Ok x) f p = f x p
if_ok (Err e) f p = tt
