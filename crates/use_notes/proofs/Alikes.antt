-- What is found of frames that are alike when one frame more comes.
use Rattle.std.proofs.Common.{◌≡◌, ◌≢◌, ◌∙◌, ◌⊎◌, inl, inr, ℕ, Bool, true, false, cond, List, [], ◌∷◌, Option, Some, None, refl, sym, ap, subst}
use Rattle.std.specs.Prelude.{◌==◌, ◌&&◌, is_some}
use Rattle.std.specs.Option.{option_or}
use Rattle.std.specs.Map.{lookup}
use Rattle.std.specs.BTreeMap.{is_at}
use Rattle.std.specs.Ordering.{nat_cmp}
use Rattle.std.specs.Cmp.Lexicographic.{slice_cmp}
use Rattle.std.proofs.lemmas.Bool.{and_parts, eqb-true, eq-eqb, ne_eqb, cases_eq}
use Rattle.std.proofs.lemmas.Map.Lookups.{CmpEqualImpliesEq, exact_pairs, exact_unsigned, exact_bytes}
use Rattle.use_notes.specs.declared.frame.RightFrame.{RightFrame}
use Rattle.use_notes.specs.declared.frame.First.{First}
use Rattle.use_notes.specs.Frames.{first_alike, alike_here, first_of, note_here, note_of, novelty, same_check, is_new, is_repeated, is_reused}
use Rattle.use_notes.specs.Standing.{Finds, KeptOfUse, check_cmp, found_alike, with_check}
use Rattle.use_notes.proofs.Firsts.{Changes, untouched, first-put, first-stays, or-none, or-some, other-here, same-here, none-before, new-none, reused-some, repeated-some}
use Rattle.use_notes.proofs.Numbers.{Told, list-itself, list_dec, same-lists}

exact-check : CmpEqualImpliesEq check_cmp
exact-check a b e = exact_pairs nat_cmp (slice_cmp nat_cmp) exact_unsigned exact_bytes a b e

or-none-left : (o p : Option First) → option_or o p ≡ None → (o ≡ None) × (p ≡ None)
or-none-left None p is = (refl, is)
or-none-left (Some x) p is = absurd (cc is)

-- ---- whether a frame is alike

abbrev is_alike : ℕ → List ℕ → RightFrame → Bool
is_alike pn check e = (e.pn == pn) && same_check e.check check

alike-itself : (e : RightFrame) → is_alike e.pn e.check e ≡ true
alike-itself e = rw (eq-eqb e.pn e.pn refl, list-itself e.check) refl

alike-same : (pn : ℕ) (check : List ℕ) (e : RightFrame) → is_alike pn check e ≡ true
    → (pn ≡ e.pn) × (check ≡ e.check)
alike-same pn check e is =
    let both = and_parts (e.pn == pn) (same_check e.check check) is in
    (sym (eqb-true e.pn pn both.0), sym (same-lists e.check check both.1))

alike-other : (pn : ℕ) (check : List ℕ) (e : RightFrame) (fs : List RightFrame) → is_alike pn check e ≡ false
    → first_alike pn check fs ≡ first_alike pn check (e ∷ fs)
alike-other pn check e fs is =
    sym (ap (λ b. option_or (first_alike pn check fs) (cond b (Some (note_of e)) None)) is
    ∙ or-none (first_alike pn check fs))

other-number : (pn : ℕ) (check : List ℕ) (e : RightFrame) → pn ≢ e.pn → is_alike pn check e ≡ false
other-number pn check e apart = ap (λ b. b && same_check e.check check) (ne_eqb e.pn pn (λ is. apart (sym is)))

pub here-alike : (e : RightFrame) → alike_here e.pn e.check e ≡ Some (note_of e)
here-alike e = ap (λ b. cond b (Some (note_of e)) None) (alike-itself e)

-- one that is alike has the number
pub none-alike : (pn : ℕ) (check : List ℕ) (fs : List RightFrame) → first_of pn fs ≡ None
    → first_alike pn check fs ≡ None
none-alike pn check [] none = refl
none-alike pn check (f ∷ fs) none =
    sym (alike-other pn check f fs (other-number pn check f apart))
    ∙ none-alike pn check fs (none-before pn f fs none)
  where
    apart : pn ≢ f.pn
    apart is =
        cc (sym (same-here f) ∙ ap (λ n. note_here n f) (sym is)
        ∙ ap (λ o. option_or o (note_here pn f)) (sym (none-before pn f fs none)) ∙ none)

-- ---- one that is alike is there: it stays the first

alikes-stay : (fs : List RightFrame) (e : RightFrame) → is_some (first_alike e.pn e.check fs) ≡ true
    → (pn : ℕ) (check : List ℕ) → first_alike pn check fs ≡ first_alike pn check (e ∷ fs)
alikes-stay fs e some pn check = go (is_alike pn check e) refl
  where
    go : (b : Bool) → is_alike pn check e ≡ b → first_alike pn check fs ≡ first_alike pn check (e ∷ fs)
    go false is = alike-other pn check e fs is
    go true is =
        let same = alike-same pn check e is in
        sym (or-some (first_alike pn check fs) (alike_here pn check e)
        (ap (λ n. is_some (first_alike n check fs)) same.0 ∙ ap (λ c. is_some (first_alike e.pn c fs)) same.1 ∙ some))

pub found-again : (fs : List RightFrame) (e : RightFrame) (kept : KeptOfUse) → Finds fs kept
    → is_repeated (novelty fs e) ≡ true → Finds (e ∷ fs) kept
found-again fs e kept finds is =
    let some = repeated-some (first_of e.pn fs) (first_alike e.pn e.check fs) is in record {
      firsts = λ pn. finds.firsts pn ∙ first-stays fs e some.0 pn;
      alike = λ pn check.
          ap (λ o. found_alike o kept.reused pn check) (sym (first-stays fs e some.0 pn))
          ∙ finds.alike pn check ∙ alikes-stay fs e some.1 pn check;
    }

-- ---- a new number is put

new-alike : (fs : List RightFrame) (e : RightFrame) (kept : KeptOfUse) → Finds fs kept → first_of e.pn fs ≡ None
    → (pn : ℕ) (check : List ℕ)
    → found_alike (first_of pn (e ∷ fs)) kept.reused pn check ≡ first_alike pn check (e ∷ fs)
new-alike fs e kept finds none pn check = go (cases_eq pn e.pn)
  where
    go : (pn ≡ e.pn) ⊎ (pn ≡ e.pn → ⊥)
        → found_alike (first_of pn (e ∷ fs)) kept.reused pn check ≡ first_alike pn check (e ∷ fs)
    go (inr apart) =
        ap (λ o. found_alike (option_or (first_of pn fs) o) kept.reused pn check) (other-here pn e apart)
        ∙ ap (λ o. found_alike o kept.reused pn check) (or-none (first_of pn fs))
        ∙ finds.alike pn check ∙ alike-other pn check e fs (other-number pn check e apart)
    go (inl is) =
        subst (λ n. found_alike (first_of n (e ∷ fs)) kept.reused n check ≡ first_alike n check (e ∷ fs)) (sym is) own
      where
        nothing : first_alike e.pn check fs ≡ None
        nothing = none-alike e.pn check fs none

        free : lookup (is_at (check_cmp (e.pn, check))) kept.reused ≡ None
        free =
            sym (ap (λ o. found_alike o kept.reused e.pn check) none) ∙ finds.alike e.pn check ∙ nothing

        here : first_of e.pn (e ∷ fs) ≡ Some (note_of e)
        here = ap (λ o. option_or o (note_here e.pn e)) none ∙ same-here e

        by-check : (b : Bool) → option_or (cond b (Some (note_of e)) None) None ≡ cond b (Some (note_of e)) None
        by-check true = refl
        by-check false = refl

        own : found_alike (first_of e.pn (e ∷ fs)) kept.reused e.pn check ≡ first_alike e.pn check (e ∷ fs)
        own =
            ap (λ o. found_alike o kept.reused e.pn check) here
            ∙ ap (option_or (with_check check (Some (note_of e)))) free
            ∙ by-check (same_check e.check check)
            ∙ sym (ap (λ o. option_or o (alike_here e.pn check e)) nothing
            ∙ ap (λ b. cond (b && same_check e.check check) (Some (note_of e)) None) (eq-eqb e.pn e.pn refl))

pub found-new : (fs : List RightFrame) (e : RightFrame) (old new : KeptOfUse) → Finds fs old
    → is_new (novelty fs e) ≡ true → Changes nat_cmp e.pn (note_of e) old.firsts new.firsts
    → lookup (is_at (nat_cmp e.pn)) new.firsts ≡ Some (note_of e) → new.reused ≡ old.reused → Finds (e ∷ fs) new
found-new fs e old new finds is changes here same =
    let none = new-none (first_of e.pn fs) (first_alike e.pn e.check fs) is in record {
      firsts = first-put fs e old.firsts new.firsts finds.firsts none changes here;
      alike = λ pn check.
          ap (λ reused. found_alike (first_of pn (e ∷ fs)) reused pn check) same
          ∙ new-alike fs e old finds none pn check;
    }

-- ---- a frame that reuses a number is put

module _ (fs : List RightFrame) (e : RightFrame) (old new : KeptOfUse) (finds : Finds fs old)
    (is : is_reused (novelty fs e) ≡ true)
    (changes : Changes check_cmp (e.pn, e.check) (note_of e) old.reused new.reused)
    (here : lookup (is_at (check_cmp (e.pn, e.check))) new.reused ≡ Some (note_of e)) where
  some : (is_some (first_of e.pn fs) ≡ true) × (first_alike e.pn e.check fs ≡ None)
  some = reused-some (first_of e.pn fs) (first_alike e.pn e.check fs) is

  put-here : found_alike (first_of e.pn fs) new.reused e.pn e.check ≡ first_alike e.pn e.check (e ∷ fs)
  put-here =
      let both = or-none-left (with_check e.check (first_of e.pn fs))
      (lookup (is_at (check_cmp (e.pn, e.check))) old.reused) (finds.alike e.pn e.check ∙ some.1) in
      ap (λ o. option_or o (lookup (is_at (check_cmp (e.pn, e.check))) new.reused)) both.0 ∙ here
      ∙ sym (ap (λ o. option_or o (alike_here e.pn e.check e)) some.1 ∙ here-alike e)

  put-other : (pn : ℕ) (check : List ℕ) → ◌≢◌ {A = ℕ × List ℕ} (pn, check) (e.pn, e.check)
      → found_alike (first_of pn fs) new.reused pn check ≡ first_alike pn check (e ∷ fs)
  put-other pn check apart =
      ap (option_or (with_check check (first_of pn fs)))
      (untouched check_cmp exact-check (e.pn, e.check) (note_of e) old.reused new.reused changes (pn, check) apart)
      ∙ finds.alike pn check ∙ alike-other pn check e fs (go (is_alike pn check e) refl)
    where
      go : (b : Bool) → is_alike pn check e ≡ b → b ≡ false
      go false alike = refl
      go true alike =
          let same = alike-same pn check e alike in absurd (apart (λ t. (same.0 t, same.1 t)))

  found : (pn : ℕ) (check : List ℕ)
      → found_alike (first_of pn fs) new.reused pn check ≡ first_alike pn check (e ∷ fs)
  found pn check = go (cases_eq pn e.pn) (list_dec check e.check)
    where
      go : (pn ≡ e.pn) ⊎ (pn ≡ e.pn → ⊥) → Told check e.check
          → found_alike (first_of pn fs) new.reused pn check ≡ first_alike pn check (e ∷ fs)
      go (inr apart) told = put-other pn check (λ same. apart (ap (λ (p : ℕ × List ℕ). p.0) same))
      go (inl same) (inr apart) = put-other pn check (λ both. apart (ap (λ (p : ℕ × List ℕ). p.1) both))
      go (inl same) (inl alike) =
          subst (λ n. found_alike (first_of n fs) new.reused n check ≡ first_alike n check (e ∷ fs)) (sym same)
          (subst (λ c. found_alike (first_of e.pn fs) new.reused e.pn c ≡ first_alike e.pn c (e ∷ fs)) (sym alike)
          put-here)

  pub found-reused : new.firsts ≡ old.firsts → Finds (e ∷ fs) new
  found-reused same = record {
    firsts = λ pn.
        ap (λ (es : List (ℕ × First)). lookup (is_at (nat_cmp pn)) es) same ∙ finds.firsts pn
        ∙ first-stays fs e some.0 pn;
    alike = λ pn check.
        ap (λ o. found_alike o new.reused pn check) (sym (first-stays fs e some.0 pn)) ∙ found pn check;
  }

-- ---- the first one with a number

-- where it has the check value, one that is alike is there
pub first-is-alike : (pn : ℕ) (check : List ℕ) (fs : List RightFrame) (f : First) → first_of pn fs ≡ Some f
    → same_check f.check check ≡ true → is_some (first_alike pn check fs) ≡ true
first-is-alike pn check [] f is same = absurd (cc is)
first-is-alike pn check (e ∷ fs) f is same =
    go (first_of pn fs) refl (first_alike pn check fs) refl (λ own. first-is-alike pn check fs f own same)
  where
    by-number : (b : Bool) → cond b (Some (note_of e)) None ≡ Some f
        → is_some (cond (b && same_check e.check check) (Some (note_of e)) None) ≡ true
    by-number false own = absurd (cc own)
    by-number true own =
        ap (λ b. is_some (cond b (Some (note_of e)) None))
        (ap (λ (g : First). same_check g.check check) (note-is own) ∙ same)
      where
        note-is : ◌≡◌ {A = Option First} (Some (note_of e)) (Some f) → note_of e ≡ f
        note-is own = cc own

    go : (o : Option First) → first_of pn fs ≡ o → (a : Option First) → first_alike pn check fs ≡ a
        → (first_of pn fs ≡ Some f → is_some (first_alike pn check fs) ≡ true)
        → is_some (first_alike pn check (e ∷ fs)) ≡ true
    go (Some g) old (Some h) alike before = ap (λ o. is_some (option_or o (alike_here pn check e))) alike
    go None old (Some h) alike before = ap (λ o. is_some (option_or o (alike_here pn check e))) alike
    go (Some g) old None alike before =
        absurd (cc (sym (ap (λ (o : Option First). is_some o) alike)
        ∙ before (old ∙ sym (ap (λ o. option_or o (note_here pn e)) old) ∙ is)))
    go None old None alike before =
        ap (λ o. is_some (option_or o (alike_here pn check e))) alike
        ∙ by-number (e.pn == pn) (sym (ap (λ o. option_or o (note_here pn e)) old) ∙ is)
