-- What is kept of first MKPDUs when one more comes.
use Rattle.std.proofs.Common.{◌≡◌, ◌≢◌, ◌∙◌, ◌⊎◌, inl, inr, ℕ, Bool, true, false, cond, List, ◌∷◌, Option, Some, None, refl, sym, ap, subst}
use Rattle.std.specs.Prelude.{is_some}
use Rattle.std.specs.Option.{option_or}
use Rattle.std.specs.Map.{lookup}
use Rattle.std.specs.BTreeMap.{is_at}
use Rattle.std.specs.Ordering.{nat_cmp, is_eq}
use Rattle.std.specs.declared.cmp.Ordering.{Ordering}
use Rattle.std.specs.declared.cmp.Ordering.TheVariants.{Less, Equal, Greater}
use Rattle.std.proofs.lemmas.Bool.{eq-eqb, ne_eqb, cases_eq}
use Rattle.std.proofs.lemmas.Map.Lookups.{CmpEqualImpliesEq, exact_unsigned}
use Rattle.member_notes.specs.declared.mkpdu.RightMkpdu.{RightMkpdu}
use Rattle.member_notes.specs.declared.mkpdu.First.{First}
use Rattle.member_notes.specs.Mkpdus.{first_of, note_of, note_here}

pub equal : (o : Ordering) → is_eq o ≡ true → o ≡ Equal
equal Less e = absurd (cc e)
equal Equal e = refl
equal Greater e = absurd (cc e)

-- what an insertion says of what is found
abbrev pub Changes : {K X : Type 0} → (K → K → Ordering) → K → X → List (K × X) → List (K × X)
    → Type 0
Changes {K} cmp k x old new =
    (q : K) → lookup (is_at (cmp q)) new ≡ cond (is_at (cmp k) q) (Some x) (lookup (is_at (cmp q)) old)

module _ {K X : Type 0} (cmp : K → K → Ordering) (exact : CmpEqualImpliesEq cmp) where
  pub untouched : (k : K) (x : X) (old new : List (K × X)) → Changes cmp k x old new → (q : K)
      → q ≢ k → lookup (is_at (cmp q)) new ≡ lookup (is_at (cmp q)) old
  untouched k x old new changes q apart = go (is_at (cmp k) q) refl
    where
      go : (b : Bool) → is_at (cmp k) q ≡ b
          → lookup (is_at (cmp q)) new ≡ lookup (is_at (cmp q)) old
      go true e = absurd (apart (sym (exact k q (equal (cmp k q) e))))
      go false e = changes q ∙ ap (λ b. cond b (Some x) (lookup (is_at (cmp q)) old)) e

abbrev Firsts : Type 0
Firsts = List (ℕ × First)

pub or-none : (o : Option First) → option_or o None ≡ o
or-none None = refl
or-none (Some x) = refl

or-some : (o p : Option First) → is_some o ≡ true → option_or o p ≡ o
or-some None p some = absurd (cc some)
or-some (Some x) p some = refl

pub other-here : (mn : ℕ) (e : RightMkpdu) → mn ≢ e.mn → note_here mn e ≡ None
other-here mn e apart = ap (λ b. cond b (Some (note_of e)) None) (ne_eqb e.mn mn (λ is. apart (sym is)))

pub same-here : (e : RightMkpdu) → note_here e.mn e ≡ Some (note_of e)
same-here e = ap (λ b. cond b (Some (note_of e)) None) (eq-eqb e.mn e.mn refl)

-- a message number that was there before
pub first-stays : (ms : List RightMkpdu) (e : RightMkpdu) → is_some (first_of e.mn ms) ≡ true → (mn : ℕ)
    → first_of mn ms ≡ first_of mn (e ∷ ms)
first-stays ms e some mn = go (cases_eq mn e.mn)
  where
    go : (mn ≡ e.mn) ⊎ (mn ≡ e.mn → ⊥) → first_of mn ms ≡ first_of mn (e ∷ ms)
    go (inl is) =
        sym (or-some (first_of mn ms) (note_here mn e) (subst (λ n. is_some (first_of n ms) ≡ true) (sym is) some))
    go (inr apart) =
        sym (or-none (first_of mn ms)) ∙ ap (option_or (first_of mn ms)) (sym (other-here mn e apart))

-- a new message number is put
pub first-put : (ms : List RightMkpdu) (e : RightMkpdu) (old new : Firsts)
    → ((mn : ℕ) → lookup (is_at (nat_cmp mn)) old ≡ first_of mn ms) → first_of e.mn ms ≡ None
    → Changes nat_cmp e.mn (note_of e) old new
    → lookup (is_at (nat_cmp e.mn)) new ≡ Some (note_of e) → (mn : ℕ)
    → lookup (is_at (nat_cmp mn)) new ≡ first_of mn (e ∷ ms)
first-put ms e old new was none changes here mn = go (cases_eq mn e.mn)
  where
    go : (mn ≡ e.mn) ⊎ (mn ≡ e.mn → ⊥) → lookup (is_at (nat_cmp mn)) new ≡ first_of mn (e ∷ ms)
    go (inl is) =
        subst (λ n. lookup (is_at (nat_cmp n)) new ≡ first_of n (e ∷ ms)) (sym is)
        (here ∙ sym (same-here e) ∙ ap (λ o. option_or o (note_here e.mn e)) (sym none))
    go (inr apart) =
        untouched nat_cmp exact_unsigned e.mn (note_of e) old new changes mn apart ∙ was mn
        ∙ sym (or-none (first_of mn ms)) ∙ ap (option_or (first_of mn ms)) (sym (other-here mn e apart))

pub none-of : (o : Option First) → is_some o ≡ false → o ≡ None
none-of None none = refl
none-of (Some x) none = absurd (cc none)
