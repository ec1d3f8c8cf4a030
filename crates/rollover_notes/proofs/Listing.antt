-- What is kept of keys and members that have counts, listed.
use Rattle.std.proofs.Common.{◌≡◌, ◌∙◌, ◌++◌, ℕ, Bool, true, false, cond, List, [], ◌∷◌, map, Some, option_map, refl, sym, ap, subst}
use Rattle.std.specs.Prelude.{find}
use Rattle.std.specs.Map.{lookup}
use Rattle.std.specs.BTreeMap.{is_at}
use Rattle.std.specs.List.Sorted.{IsStrictlySortedBy}
use Rattle.std.proofs.lemmas.List.{append-nil}
use Rattle.rollover_notes.specs.declared.counts.Counts.{Counts}
use Rattle.rollover_notes.specs.declared.unready.Unready.{Unready}
use Rattle.rollover_notes.specs.Events.{Event}
use Rattle.rollover_notes.specs.Counted.{AreUnreadyOf, Pair, is_unready_of, pair_cmp, pair_of, unready_of}
use Rattle.rollover_notes.specs.Standing.{KeptRollovers, MemberKey, StandsFor, member_key_cmp}
use Rattle.rollover_notes.specs.inside.Listing.{IsListing, unready_at}
use Rattle.rollover_notes.proofs.Ties.{equal, exact-pair}

abbrev pub Entries : Type 0
Entries = List (Pair × Counts)

-- nothing is left of a list that was gone over
pub all-listed : (packets : List (MemberKey × ℕ)) (us : List Unready) (left es : Entries)
    → us ++ map (unready_at packets) left ≡ map (unready_at packets) es → left ≡ []
    → us ≡ map (unready_at packets) es
all-listed packets us left es both none =
    sym (append-nil us) ∙ ap (λ (xs : Entries). us ++ map (unready_at packets) xs) (sym none) ∙ both

module _ (packets : List (MemberKey × ℕ)) where
  keys-stay : (es : Entries) → map pair_of (map (unready_at packets) es) ≡ map (λ (e : Pair × Counts). e.0) es
  keys-stay [] = refl
  keys-stay (e ∷ es) = ap (λ (ks : List Pair). e.0 ∷ ks) (keys-stay es)

  abbrev unready_kept : Pair → Counts → Unready
  unready_kept p counts = unready_of p (lookup (is_at (member_key_cmp (p.1, p.0))) packets) counts

  found-kept : (p : Pair) (es : Entries)
      → find (is_unready_of p) (map (unready_at packets) es) ≡ option_map (unready_kept p) (lookup (is_at (pair_cmp p)) es)
  found-kept p [] = refl
  found-kept p (e ∷ es) = go (is_at (pair_cmp p) e.0) refl (found-kept p es)
    where
      go : (b : Bool) → is_at (pair_cmp p) e.0 ≡ b
          → find (is_unready_of p) (map (unready_at packets) es) ≡ option_map (unready_kept p) (lookup (is_at (pair_cmp p)) es)
          → cond b (Some (unready_at packets e)) (find (is_unready_of p) (map (unready_at packets) es))
          ≡ option_map (unready_kept p) (cond b (Some e.1) (lookup (is_at (pair_cmp p)) es))
      go true is later =
          let same = exact-pair p e.0 (equal (pair_cmp p e.0) is) in
          ap (λ (q : Pair). Some (unready_kept q e.1)) (sym same)
      go false is later = later

pub listed : (h : List Event) (kept : KeptRollovers) (us : List Unready) → StandsFor h kept
    → IsListing kept.packets kept.unready us → AreUnreadyOf h us
listed h kept us stands list =
    subst (AreUnreadyOf h) (sym list.each) (record {
      ascending = subst (IsStrictlySortedBy pair_cmp) (sym (keys-stay kept.packets kept.unready)) list.ordered;
      each = λ p. found-kept kept.packets p kept.unready
          ∙ (λ t. option_map (unready_of p (stands.packets p.1 p.0 t)) (stands.unready p t));
    })
