-- What is kept of each sender, listed.
use Rattle.std.proofs.Common.{◌≡◌, ◌∙◌, ◌++◌, ℕ, suc, Bool, true, false, cond, List, [], ◌∷◌, map, Some, None, refl, sym, ap, subst}
use Rattle.std.specs.Prelude.{◌||◌, flat_map, slice_get}
use Rattle.std.specs.List.{list_any}
use Rattle.std.specs.Map.{lookup, keys_of}
use Rattle.std.specs.BTreeMap.{is_at}
use Rattle.std.specs.Cmp.{IsEquivalence, eq_by_cmp_equiv}
use Rattle.std.specs.Cmp.Lexicographic.{nat_list_cmp_total}
use Rattle.std.specs.Ordering.{eq_by_cmp}
use Rattle.std.specs.List.Sorted.{IsStrictlySortedBy}
use Rattle.std.proofs.lemmas.List.{append-nil}
use Rattle.std.proofs.lemmas.Map.Entries.{lookup_from_place}
use Rattle.std.proofs.lemmas.Map.Keys.{IsDistinct-from_sorted}
use Rattle.lan_base.specs.declared.address.Sci.{Sci}
use Rattle.lan_base.specs.Identifiers.{same_sci}
use Rattle.use_notes.specs.declared.frame.RightFrame.{RightFrame}
use Rattle.use_notes.specs.declared.changes.change.Change.{Change}
use Rattle.use_notes.specs.declared.changes.change.Handover.{Handover}
use Rattle.use_notes.specs.changes.Changes.{frames_from, firsts, neighbours, change, changes_of, sci_cmp, AreChangesOf}
use Rattle.use_notes.specs.changes.Standing.{KeptOfSender, Keeps, KeepsSome, Senders, StandsFor, change_told, handover}
use Rattle.use_notes.proofs.changing.Putting.{ties}

abbrev pub told_at : Sci × KeptOfSender → List Change
told_at e = map (change_told e.0) e.1.handovers

-- nothing is left of a list that was gone over
pub all-listed : (cs : List Change) (left es : Senders) → cs ++ flat_map told_at left ≡ flat_map told_at es → left ≡ []
    → cs ≡ flat_map told_at es
all-listed cs left es both none =
    sym (append-nil cs) ∙ ap (λ (xs : Senders). cs ++ flat_map told_at xs) (sym none) ∙ both

equivalence : IsEquivalence (eq_by_cmp sci_cmp)
equivalence = record {
  refl = λ a. (eq_by_cmp_equiv nat_list_cmp_total).refl a.0;
  symm = λ a b. (eq_by_cmp_equiv nat_list_cmp_total).symm a.0 b.0;
  congr = λ a b c. (eq_by_cmp_equiv nat_list_cmp_total).congr a.0 b.0 c.0;
}

told-each : (sci : Sci) (fs : List RightFrame) (ps : List (RightFrame × RightFrame))
    → map (change_told sci) (map (handover fs) ps) ≡ map (λ it. change sci fs it.0.key it.1) ps
told-each sci fs [] = refl
told-each sci fs (p ∷ ps) = ap (λ (cs : List Change). change sci fs p.0.key p.1 ∷ cs) (told-each sci fs ps)

told-of : (sci : Sci) (fs : List RightFrame) (kept : KeptOfSender) → Keeps fs kept
    → map (change_told sci) kept.handovers ≡ changes_of sci fs
told-of sci fs kept keeps =
    ap (λ (vs : List Handover). map (change_told sci) vs) keeps.handovers ∙ told-each sci fs (neighbours (firsts fs))

flat-told : (f : Sci → List Change) (es : Senders)
    → ((i : ℕ) (sci : Sci) (kept : KeptOfSender) → slice_get es i ≡ Some (sci, kept) → told_at (sci, kept) ≡ f sci)
    → flat_map told_at es ≡ flat_map f (keys_of es)
flat-told f [] each = refl
flat-told f (e ∷ es) each =
    ap (λ (cs : List Change). cs ++ flat_map told_at es) (each 0 e.0 e.1 refl)
    ∙ ap (λ (cs : List Change). f e.0 ++ cs) (flat-told f es (λ i sci kept is. each (suc i) sci kept is))

not-kept : (sci : Sci) (es : Senders) → list_any (same_sci sci) (keys_of es) ≡ false
    → lookup (is_at (sci_cmp sci)) es ≡ None
not-kept sci [] none = refl
not-kept sci (e ∷ es) none = go (same_sci sci e.0) refl (λ rest. not-kept sci es rest)
  where
    go : (b : Bool) → same_sci sci e.0 ≡ b
        → (list_any (same_sci sci) (keys_of es) ≡ false → lookup (is_at (sci_cmp sci)) es ≡ None)
        → lookup (is_at (sci_cmp sci)) (e ∷ es) ≡ None
    go true is rest = absurd (cc (ap (λ b. b || list_any (same_sci sci) (keys_of es)) (sym is) ∙ none))
    go false is rest =
        ap (λ b. cond b (Some e.1) (lookup (is_at (sci_cmp sci)) es)) (sym (ties sci e.0) ∙ is)
        ∙ rest (ap (λ b. b || list_any (same_sci sci) (keys_of es)) (sym is) ∙ none)

pub listed : (h : List RightFrame) (senders : Senders) (cs : List Change) → StandsFor h senders
    → IsStrictlySortedBy sci_cmp (keys_of senders) → cs ≡ flat_map told_at senders → AreChangesOf h cs
listed h senders cs stands ordered is = record {
  senders = keys_of senders;
  ascending = ordered;
  others = λ sci none. subst (λ o. KeepsSome (frames_from sci h) o) (not-kept sci senders none) (stands.each sci);
  each = is ∙ flat-told (λ sci. changes_of sci (frames_from sci h)) senders
      (λ i sci kept at. told-of sci (frames_from sci h) kept
      (subst (λ o. KeepsSome (frames_from sci h) o)
      (lookup_from_place equivalence senders i sci kept (IsDistinct-from_sorted sci_cmp (keys_of senders) ordered) at)
      (stands.each sci)));
}
