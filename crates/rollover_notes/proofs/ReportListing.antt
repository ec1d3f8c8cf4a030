-- What is kept of the keys that members reported, listed.
use Rattle.std.proofs.Common.{◌≡◌, ◌∙◌, ◌++◌, ℕ, Bool, true, false, cond, List, [], ◌∷◌, map, Some, option_map, refl, sym, ap, subst}
use Rattle.std.specs.Prelude.{find}
use Rattle.std.specs.Map.{lookup}
use Rattle.std.specs.BTreeMap.{is_at}
use Rattle.std.specs.List.Sorted.{IsStrictlySortedBy}
use Rattle.std.proofs.lemmas.List.{append-nil}
use Rattle.rollover_notes.specs.declared.report.Report.{Report}
use Rattle.rollover_notes.specs.Events.{Event}
use Rattle.rollover_notes.specs.Reported.{AreReportsOf, is_report_of, member_key_of, report_of}
use Rattle.rollover_notes.specs.Standing.{KeptRollovers, MemberKey, StandsFor, member_key_cmp}
use Rattle.rollover_notes.specs.inside.Listing.{IsReportListing, report_at}
use Rattle.rollover_notes.proofs.Ties.{equal, exact-member-key}

abbrev pub Entries : Type 0
Entries = List (MemberKey × ℕ)

-- nothing is left of a list that was gone over
pub all-told : (rs : List Report) (left es : Entries) → rs ++ map report_at left ≡ map report_at es → left ≡ []
    → rs ≡ map report_at es
all-told rs left es both none =
    sym (append-nil rs) ∙ ap (λ (xs : Entries). rs ++ map report_at xs) (sym none) ∙ both

keys-stay : (es : Entries) → map member_key_of (map report_at es) ≡ map (λ (e : MemberKey × ℕ). e.0) es
keys-stay [] = refl
keys-stay (e ∷ es) = ap (λ (ks : List MemberKey). e.0 ∷ ks) (keys-stay es)

found-kept : (at : MemberKey) (es : Entries)
    → find (is_report_of at) (map report_at es) ≡ option_map (report_of at) (lookup (is_at (member_key_cmp at)) es)
found-kept at [] = refl
found-kept at (e ∷ es) = go (is_at (member_key_cmp at) e.0) refl (found-kept at es)
  where
    go : (b : Bool) → is_at (member_key_cmp at) e.0 ≡ b
        → find (is_report_of at) (map report_at es) ≡ option_map (report_of at) (lookup (is_at (member_key_cmp at)) es)
        → cond b (Some (report_at e)) (find (is_report_of at) (map report_at es))
        ≡ option_map (report_of at) (cond b (Some e.1) (lookup (is_at (member_key_cmp at)) es))
    go true is later =
        ap (λ (k : MemberKey). Some (report_of k e.1)) (sym (exact-member-key at e.0 (equal (member_key_cmp at e.0) is)))
    go false is later = later

pub reports-listed : (h : List Event) (kept : KeptRollovers) (rs : List Report) → StandsFor h kept
    → IsReportListing kept.packets rs → AreReportsOf h rs
reports-listed h kept rs stands list =
    subst (AreReportsOf h) (sym list.each) (record {
      ascending = subst (IsStrictlySortedBy member_key_cmp) (sym (keys-stay kept.packets)) list.ordered;
      each = λ at. found-kept at kept.packets ∙ ap (option_map (report_of at)) (stands.packets at.0 at.1);
    })
