-- Where what is kept of a member is found, and how it is listed.
use Rattle.std.proofs.Common.{◌≡◌, ◌∙◌, ◌++◌, ℕ, Bool, true, false, cond, List, [], ◌∷◌, map, Option, Some, Result, Ok, Err, option_map, refl, sym, ap, subst}
use Rattle.std.specs.Prelude.{find, OnOk}
use Rattle.std.specs.Map.{lookup}
use Rattle.std.specs.BTreeMap.{is_at}
use Rattle.std.specs.List.Sorted.{IsStrictlySortedBy}
use Rattle.std.proofs.lemmas.List.{append-nil}
use Rattle.lan_base.specs.declared.address.Mi.{Mi}
use Rattle.member_notes.specs.declared.facts.Member.{Member}
use Rattle.member_notes.specs.Speakers.{Speaker}
use Rattle.member_notes.specs.Facts.{AreMembersOf, Test, by, is_any, is_member, member_of}
use Rattle.member_notes.specs.FactsKept.{HoldsFacts, Speakers, speaker_of}
use Rattle.member_notes.specs.Spoken.{Spoken}
use Rattle.member_notes.specs.Standing.{member_cmp}
use Rattle.member_notes.specs.inside.Hearing.{IsHeard}
use Rattle.member_notes.proofs.Firsts.{Changes, equal, untouched}
use Rattle.member_notes.proofs.Putting.{exact-member}

pub heard-at : (at : ℕ × Mi) (s : Speaker) (old new : Speakers) → Changes member_cmp at s old new
    → lookup (is_at (member_cmp at)) new ≡ Some s → IsHeard at s old new
heard-at at s old new changes here = record {
  here = here;
  others = λ other apart. untouched member_cmp exact-member at s old new changes other apart;
}

abbrev pub member_at : (ℕ × Mi) × Speaker → Member
member_at e = record { group = e.0.0; mi = e.0.1; counts = e.1.counts }

-- nothing is left of a list that was gone over
pub all-listed : (ms : List Member) (left es : Speakers) → ms ++ map member_at left ≡ map member_at es → left ≡ []
    → ms ≡ map member_at es
all-listed ms left es both none =
    sym (append-nil ms) ∙ ap (λ (xs : Speakers). ms ++ map member_at xs) (sym none) ∙ both

keys-stay : (es : Speakers) → map (λ (m : Member). (m.group, m.mi)) (map member_at es) ≡ map (λ (e : (ℕ × Mi) × Speaker). e.0) es
keys-stay [] = refl
keys-stay (e ∷ es) = ap (λ (ks : List (ℕ × Mi)). e.0 ∷ ks) (keys-stay es)

abbrev member_kept : ℕ → Mi → Speaker → Member
member_kept group mi s = record { group = group; mi = mi; counts = s.counts }

found-kept : (group : ℕ) (mi : Mi) (es : Speakers)
    → find (is_member group mi) (map member_at es) ≡ option_map (member_kept group mi) (lookup (is_at (member_cmp (group, mi))) es)
found-kept group mi [] = refl
found-kept group mi (e ∷ es) = go (is_at (member_cmp (group, mi)) e.0) refl (found-kept group mi es)
  where
    go : (b : Bool) → is_at (member_cmp (group, mi)) e.0 ≡ b
        → find (is_member group mi) (map member_at es) ≡ option_map (member_kept group mi) (lookup (is_at (member_cmp (group, mi))) es)
        → cond b (Some (member_at e)) (find (is_member group mi) (map member_at es))
        ≡ option_map (member_kept group mi) (cond b (Some e.1) (lookup (is_at (member_cmp (group, mi))) es))
    go true is later =
        let same = exact-member (group, mi) e.0 (equal (member_cmp (group, mi) e.0) is) in
        ap (λ (at : ℕ × Mi). Some (member_kept at.0 at.1 e.1)) (sym same)
    go false is later = later

told-of : (group : ℕ) (mi : Mi) (chosen : Test → List Spoken) (us : List Spoken)
    → option_map (member_kept group mi) (speaker_of chosen us) ≡ member_of group mi chosen us
told-of group mi chosen [] = refl
told-of group mi chosen (e ∷ es) = refl

pub listed : (h : List Spoken) (speakers : Speakers) (ms : List Member) → HoldsFacts h speakers
    → IsStrictlySortedBy member_cmp (map (λ (e : (ℕ × Mi) × Speaker). e.0) speakers)
    → ms ≡ map member_at speakers → AreMembersOf h ms
listed h speakers ms holds ordered is =
    subst (AreMembersOf h) (sym is) (record {
      ascending = subst (IsStrictlySortedBy member_cmp) (sym (keys-stay speakers)) ordered;
      each = λ group mi. found-kept group mi speakers
          ∙ ap (λ (o : Option Speaker). option_map (member_kept group mi) o) (holds group mi)
          ∙ told-of group mi (by group mi h) (by group mi h is_any);
    })

pub on_ok : {T E P Q : Type 0} (r : Result T E) → (P → Q) → OnOk r P → OnOk r Q
on_ok (Ok x) f p = f p
on_ok (Err e) f p = tt
