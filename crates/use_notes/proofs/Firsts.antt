-- What is kept of first frames when one frame more comes.
use Rattle.std.proofs.Common.{◌≡◌, ◌≢◌, ◌∙◌, ◌⊎◌, inl, inr, ℕ, Bool, true, false, cond, List, ◌∷◌, Option, Some, None, refl, sym, ap, subst}
use Rattle.std.specs.Prelude.{is_some}
use Rattle.std.specs.Option.{option_or}
use Rattle.std.specs.Map.{lookup}
use Rattle.std.specs.BTreeMap.{is_at}
use Rattle.std.specs.Ordering.{nat_cmp, is_eq}
use Rattle.std.specs.declared.cmp.Ordering.{Ordering}
use Rattle.std.specs.declared.cmp.Ordering.TheVariants.{Less, Equal, Greater}
use Rattle.std.proofs.lemmas.Bool.{eq-eqb, ne_eqb, cases_eq}
use Rattle.std.proofs.lemmas.Map.Lookups.{CmpEqualImpliesEq, exact_unsigned}
use Rattle.use_notes.specs.declared.frame.RightFrame.{RightFrame}
use Rattle.use_notes.specs.declared.frame.First.{First}
use Rattle.use_notes.specs.Frames.{first_of, note_of, note_here, novelty_after, is_new, is_repeated, is_reused}

pub equal : (o : Ordering) → is_eq o ≡ true → o ≡ Equal
equal Less e = absurd (cc e)
equal Equal e = refl
equal Greater e = absurd (cc e)

-- what an insertion says of what is found
abbrev pub Changes : {K X : Type 0} → (K → K → Ordering) → K → X → List (K × X) → List (K × X)
    → Type 0
Changes {K} cmp k x old new =
    (q : K) → lookup (is_at (cmp q)) new ≡ cond (is_at (cmp k) q) (Some x) (lookup (is_at (cmp q)) old)

module _ {K X : Type 0} (cmp : K → K → Ordering) (exact : CmpEqualImpliesEq cmp) where
  pub untouched : (k : K) (x : X) (old new : List (K × X)) → Changes cmp k x old new → (q : K)
      → q ≢ k → lookup (is_at (cmp q)) new ≡ lookup (is_at (cmp q)) old
  untouched k x old new changes q apart = go (is_at (cmp k) q) refl
    where
      go : (b : Bool) → is_at (cmp k) q ≡ b
          → lookup (is_at (cmp q)) new ≡ lookup (is_at (cmp q)) old
      go true e = absurd (apart (sym (exact k q (equal (cmp k q) e))))
      go false e = changes q ∙ ap (λ b. cond b (Some x) (lookup (is_at (cmp q)) old)) e

abbrev Firsts : Type 0
Firsts = List (ℕ × First)

pub or-none : (o : Option First) → option_or o None ≡ o
or-none None = refl
or-none (Some x) = refl

pub or-some : (o p : Option First) → is_some o ≡ true → option_or o p ≡ o
or-some None p some = absurd (cc some)
or-some (Some x) p some = refl

pub other-here : (pn : ℕ) (e : RightFrame) → pn ≢ e.pn → note_here pn e ≡ None
other-here pn e apart = ap (λ b. cond b (Some (note_of e)) None) (ne_eqb e.pn pn (λ is. apart (sym is)))

pub same-here : (e : RightFrame) → note_here e.pn e ≡ Some (note_of e)
same-here e = ap (λ b. cond b (Some (note_of e)) None) (eq-eqb e.pn e.pn refl)

-- a packet number that was there before
pub first-stays : (fs : List RightFrame) (e : RightFrame) → is_some (first_of e.pn fs) ≡ true → (pn : ℕ)
    → first_of pn fs ≡ first_of pn (e ∷ fs)
first-stays fs e some pn = go (cases_eq pn e.pn)
  where
    go : (pn ≡ e.pn) ⊎ (pn ≡ e.pn → ⊥) → first_of pn fs ≡ first_of pn (e ∷ fs)
    go (inl is) =
        sym (or-some (first_of pn fs) (note_here pn e) (subst (λ n. is_some (first_of n fs) ≡ true) (sym is) some))
    go (inr apart) =
        sym (or-none (first_of pn fs)) ∙ ap (option_or (first_of pn fs)) (sym (other-here pn e apart))

-- a new packet number is put
pub first-put : (fs : List RightFrame) (e : RightFrame) (old new : Firsts)
    → ((pn : ℕ) → lookup (is_at (nat_cmp pn)) old ≡ first_of pn fs) → first_of e.pn fs ≡ None
    → Changes nat_cmp e.pn (note_of e) old new
    → lookup (is_at (nat_cmp e.pn)) new ≡ Some (note_of e) → (pn : ℕ)
    → lookup (is_at (nat_cmp pn)) new ≡ first_of pn (e ∷ fs)
first-put fs e old new was none changes here pn = go (cases_eq pn e.pn)
  where
    go : (pn ≡ e.pn) ⊎ (pn ≡ e.pn → ⊥) → lookup (is_at (nat_cmp pn)) new ≡ first_of pn (e ∷ fs)
    go (inl is) =
        subst (λ n. lookup (is_at (nat_cmp n)) new ≡ first_of n (e ∷ fs)) (sym is)
        (here ∙ sym (same-here e) ∙ ap (λ o. option_or o (note_here e.pn e)) (sym none))
    go (inr apart) =
        untouched nat_cmp exact_unsigned e.pn (note_of e) old new changes pn apart ∙ was pn
        ∙ sym (or-none (first_of pn fs)) ∙ ap (option_or (first_of pn fs)) (sym (other-here pn e apart))

pub none-before : (pn : ℕ) (f : RightFrame) (fs : List RightFrame) → first_of pn (f ∷ fs) ≡ None
    → first_of pn fs ≡ None
none-before pn f fs none = go (first_of pn fs) none
  where
    go : (o : Option First) → option_or o (note_here pn f) ≡ None → o ≡ None
    go None is = refl
    go (Some x) is = absurd (cc is)

-- ---- what a frame is by the first ones before it

pub new-none : (o alike : Option First) → is_new (novelty_after o alike) ≡ true → o ≡ None
new-none None alike is = refl
new-none (Some f) None is = absurd (cc is)
new-none (Some f) (Some g) is = absurd (cc is)

pub reused-some : (o alike : Option First) → is_reused (novelty_after o alike) ≡ true
    → (is_some o ≡ true) × (alike ≡ None)
reused-some None alike is = absurd (cc is)
reused-some (Some f) None is = (refl, refl)
reused-some (Some f) (Some g) is = absurd (cc is)

pub repeated-some : (o alike : Option First) → is_repeated (novelty_after o alike) ≡ true
    → (is_some o ≡ true) × (is_some alike ≡ true)
repeated-some None alike is = absurd (cc is)
repeated-some (Some f) None is = absurd (cc is)
repeated-some (Some f) (Some g) is = (refl, refl)
