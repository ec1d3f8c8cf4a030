-- What is kept of each key and sender, listed.
use Rattle.std.proofs.Common.{◌≡◌, ◌∙◌, ◌++◌, ℕ, Bool, true, false, cond, List, [], ◌∷◌, map, Option, Some, None, option_map, refl, sym, ap, subst, arith}
use Rattle.std.specs.Prelude.{find}
use Rattle.std.specs.Map.{lookup}
use Rattle.std.specs.BTreeMap.{is_at}
use Rattle.std.specs.List.Sorted.{IsStrictlySortedBy}
use Rattle.std.proofs.lemmas.List.{append-nil}
use Rattle.lan_base.specs.declared.address.Sci.{Sci}
use Rattle.use_notes.specs.declared.frame.RightFrame.{RightFrame}
use Rattle.use_notes.specs.declared.counts.Counts.{Counts}
use Rattle.use_notes.specs.declared.notes.Use.{Use}
use Rattle.use_notes.specs.Frames.{frames_of}
use Rattle.use_notes.specs.Uses.{use_cmp, is_use_of, use_told, AreUsesOf}
use Rattle.use_notes.specs.Standing.{KeptOfUse, KeepsSome, Notes, StandsFor}
use Rattle.use_notes.proofs.Firsts.{equal}
use Rattle.use_notes.proofs.Putting.{Senders, exact-use}

abbrev pub use_at : (ℕ × Sci) × KeptOfUse → Use
use_at e = record { key = e.0.0; sci = e.0.1; counts = e.1.counts }

-- nothing is left of a list that was gone over
pub all-listed : (us : List Use) (left es : Senders) → us ++ map use_at left ≡ map use_at es → left ≡ []
    → us ≡ map use_at es
all-listed us left es both none =
    sym (append-nil us) ∙ ap (λ (xs : Senders). us ++ map use_at xs) (sym none) ∙ both

keys-stay : (es : Senders) → map (λ (u : Use). (u.key, u.sci)) (map use_at es) ≡ map (λ (e : (ℕ × Sci) × KeptOfUse). e.0) es
keys-stay [] = refl
keys-stay (e ∷ es) = ap (λ (ks : List (ℕ × Sci)). e.0 ∷ ks) (keys-stay es)

abbrev use_kept : ℕ → Sci → KeptOfUse → Use
use_kept key sci kept = record { key = key; sci = sci; counts = kept.counts }

found-kept : (key : ℕ) (sci : Sci) (es : Senders)
    → find (is_use_of key sci) (map use_at es) ≡ option_map (use_kept key sci) (lookup (is_at (use_cmp (key, sci))) es)
found-kept key sci [] = refl
found-kept key sci (e ∷ es) = go (is_at (use_cmp (key, sci)) e.0) refl (found-kept key sci es)
  where
    go : (b : Bool) → is_at (use_cmp (key, sci)) e.0 ≡ b
        → find (is_use_of key sci) (map use_at es) ≡ option_map (use_kept key sci) (lookup (is_at (use_cmp (key, sci))) es)
        → cond b (Some (use_at e)) (find (is_use_of key sci) (map use_at es))
        ≡ option_map (use_kept key sci) (cond b (Some e.1) (lookup (is_at (use_cmp (key, sci))) es))
    go true is later =
        let same = exact-use (key, sci) e.0 (equal (use_cmp (key, sci) e.0) is) in
        ap (λ (at : ℕ × Sci). Some (use_kept at.0 at.1 e.1)) (sym same)
    go false is later = later

told-of : (key : ℕ) (sci : Sci) (fs : List RightFrame) (o : Option KeptOfUse) → KeepsSome fs o
    → option_map (use_kept key sci) o ≡ use_told key sci fs
told-of key sci fs None none = ap (use_told key sci) (sym none)
told-of key sci [] (Some kept) some = absurd (omega (arith, some))
told-of key sci (e ∷ fs) (Some kept) some =
    ap (λ (counts : Counts). Some (record { key = key; sci = sci; counts = counts })) some.1.counts

pub listed : (h : List RightFrame) (notes : Notes) (us : List Use) → StandsFor h notes
    → IsStrictlySortedBy use_cmp (map (λ (e : (ℕ × Sci) × KeptOfUse). e.0) notes.senders)
    → us ≡ map use_at notes.senders → AreUsesOf h us
listed h notes us stands ordered is =
    subst (AreUsesOf h) (sym is) (record {
      ascending = subst (IsStrictlySortedBy use_cmp) (sym (keys-stay notes.senders)) ordered;
      each = λ key sci. found-kept key sci notes.senders
          ∙ told-of key sci (frames_of key sci h) (lookup (is_at (use_cmp (key, sci))) notes.senders) (stands.senders key sci);
    })
