-- Of fresh right frames one list alone is that of their changes.
use Rattle.std.proofs.Common.{◌≡◌, ◌∙◌, ◌++◌, Bool, true, false, cond, List, [], ◌∷◌, map, filter, Option, Some, None, refl, sym, ap, subst}
use Rattle.std.specs.Prelude.{◌&&◌, ◌||◌, find, flat_map}
use Rattle.std.specs.List.{list_any}
use Rattle.std.specs.Cmp.{IsTotalOrder}
use Rattle.std.specs.Cmp.Lexicographic.{slice_cmp, texts_ties}
use Rattle.std.specs.List.Sorted.{IsStrictlySortedBy}
use Rattle.std.specs.Ordering.{is_eq, nat_cmp}
use Rattle.std.specs.declared.cmp.Ordering.{Ordering}
use Rattle.std.specs.declared.cmp.Ordering.TheVariants.{Less, Equal, Greater}
use Rattle.std.proofs.lemmas.Cmp.{nat_list_cmp_total, on_total}
use Rattle.std.proofs.lemmas.List.{map-id}
use Rattle.std.proofs.lemmas.List.Kept.{IsStrictlySortedBy-filter}
use Rattle.std.proofs.lemmas.Map.Lookups.{exact_bytes}
use Rattle.lan_base.specs.declared.address.Sci.{Sci}
use Rattle.lan_base.specs.Identifiers.{same_sci}
use Rattle.use_notes.specs.declared.frame.RightFrame.{RightFrame}
use Rattle.use_notes.specs.declared.changes.change.Change.{Change}
use Rattle.use_notes.specs.changes.Changes.{AreChangesOf, changes_of, frames_from, sci_cmp}
use Rattle.capture_audit.proofs.Ascending.{alone}

sci-total : IsTotalOrder sci_cmp
sci-total = on_total (λ (s : Sci). s.0) nat_list_cmp_total

sci-of : (a b : Sci) → a.0 ≡ b.0 → a ≡ b
sci-of a b e = λ i. record { 0 = e i }

equal : (o : Ordering) → is_eq o ≡ true → o ≡ Equal
equal Less e = absurd (cc e)
equal Equal e = refl
equal Greater e = absurd (cc e)

sci-is : (a b : Sci) → is_eq (sci_cmp a b) ≡ true → a ≡ b
sci-is a b e = sci-of a b (exact_bytes a.0 b.0 (equal (slice_cmp nat_cmp a.0 b.0) e))

abbrev some : List RightFrame → Bool
some [] = false
some (e ∷ fs) = true

none-there : (fs : List RightFrame) → some fs ≡ false → fs ≡ []
none-there [] is = refl
none-there (e ∷ fs) is = absurd (cc is)

module _ (h : List RightFrame) where
  abbrev changes-from : Sci → List Change
  changes-from sci = changes_of sci (frames_from sci h)

  abbrev has : Sci → Bool
  has sci = some (frames_from sci h)

  abbrev kept : List Sci → List Sci
  kept ss = filter has ss

  -- a sender without frames adds nothing
  flat-kept : (ss : List Sci) → flat_map changes-from ss ≡ flat_map changes-from (kept ss)
  flat-kept [] = refl
  flat-kept (s ∷ ss) = go (has s) refl (flat-kept ss)
    where
      go : (b : Bool) → has s ≡ b → flat_map changes-from ss ≡ flat_map changes-from (kept ss)
          → changes-from s ++ flat_map changes-from ss ≡ flat_map changes-from (cond b (s ∷ kept ss) (kept ss))
      go true is later = ap (λ (cs : List Change). changes-from s ++ cs) later
      go false is later =
          ap (λ (fs : List RightFrame). changes_of s fs ++ flat_map changes-from ss) (none-there (frames_from s h) is) ∙ later

  -- a sender, if it has frames and is among these
  abbrev sender : Sci → Bool → Option Sci
  sender q among = cond (has q && among) (Some q) None

  abbrev at : Sci → List Sci → Option Sci
  at q ss = find (λ s. is_eq (sci_cmp q s)) ss

  found : (q : Sci) (ss : List Sci) → at q (kept ss) ≡ sender q (list_any (same_sci q) ss)
  found q [] = elim (has q) as (λ b. None ≡ cond (b && false) (Some q) None) [ true ↦ refl | false ↦ refl ]
  found q (s ∷ ss) = go (is_eq (sci_cmp q s)) refl (found q ss)
    where
      past : (b : Bool) → is_eq (sci_cmp q s) ≡ false → at q (cond b (s ∷ kept ss) (kept ss)) ≡ at q (kept ss)
      past true is = ap (λ c. cond c (Some s) (at q (kept ss))) is
      past false is = refl

      here : (b : Bool) → has s ≡ b → is_eq (sci_cmp q s) ≡ true → at q (kept ss) ≡ sender q (list_any (same_sci q) ss)
          → at q (cond b (s ∷ kept ss) (kept ss)) ≡ cond (b && true) (Some s) None
      here true has-it is later = ap (λ c. cond c (Some s) (at q (kept ss))) is
      here false has-it is later =
          later
          ∙ ap (λ (z : Sci). cond (has z && list_any (same_sci q) ss) (Some q) None) (sci-is q s is)
          ∙ ap (λ c. cond (c && list_any (same_sci q) ss) (Some q) None) has-it

      go : (b : Bool) → is_eq (sci_cmp q s) ≡ b → at q (kept ss) ≡ sender q (list_any (same_sci q) ss)
          → at q (kept (s ∷ ss)) ≡ sender q (list_any (same_sci q) (s ∷ ss))
      go true is later =
          here (has s) refl is later
          ∙ ap (λ (z : Sci). cond (has z && true) (Some z) None) (sym (sci-is q s is))
          ∙ ap (λ c. sender q (c || list_any (same_sci q) ss)) (sym (texts_ties q.0 s.0 ∙ is))
      go false is later =
          past (has s) is ∙ later
          ∙ ap (λ c. sender q (c || list_any (same_sci q) ss)) (sym (texts_ties q.0 s.0 ∙ is))

  told : (ss : List Sci) → ((sci : Sci) → list_any (same_sci sci) ss ≡ false → frames_from sci h ≡ [])
      → (q : Sci) → at q (kept ss) ≡ sender q true
  told ss others q = found q ss ∙ go (list_any (same_sci q) ss) refl
    where
      go : (b : Bool) → list_any (same_sci q) ss ≡ b → sender q b ≡ sender q true
      go true is = refl
      go false is =
          let none : has q ≡ false = ap some (others q is) in
          ap (λ c. cond (c && false) (Some q) None) none ∙ sym (ap (λ c. cond (c && true) (Some q) None) none)

  ascends : (ss : List Sci) → IsStrictlySortedBy sci_cmp ss → IsStrictlySortedBy sci_cmp (map (λ (s : Sci). s) (kept ss))
  ascends ss ascending =
      subst (IsStrictlySortedBy sci_cmp) (sym (map-id (kept ss))) (IsStrictlySortedBy-filter sci_cmp has ss ascending)

  pub changes-alone : (cs ds : List Change) → AreChangesOf h cs → AreChangesOf h ds → cs ≡ ds
  changes-alone cs ds are also =
      are.each ∙ flat-kept are.senders
      ∙ ap (λ (ss : List Sci). flat_map changes-from ss)
      (alone (λ (s : Sci). s) sci-total (kept are.senders) (kept also.senders) (ascends are.senders are.ascending)
      (ascends also.senders also.ascending)
      (λ q. told are.senders are.others q ∙ sym (told also.senders also.others q)))
      ∙ sym (flat-kept also.senders) ∙ sym also.each
