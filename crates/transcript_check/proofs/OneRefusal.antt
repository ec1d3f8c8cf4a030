-- One line of a transcript is refused at most, and for one reason.
use Rattle.std.proofs.Common.{◌≡◌, ◌∙◌, ◌+◌, ℕ, suc, List, [], ◌∷◌, ◌++◌, length, Some, None, refl, sym, ap, subst}
use Rattle.std.proofs.lemmas.List.Elements.{All-nil}
use Rattle.lan_base.specs.Name.{IsName}
use Rattle.transcript_reader.specs.Facts.{AreNamed, Known, Tells, nothing, unnamed}
use Rattle.lan_core.specs.declared.fact.Fact.{Fact}
use Rattle.transcript_check.specs.declared.fault.CheckFault.{CheckFault}
use Rattle.transcript_check.specs.declared.fault.CheckFault.TheVariants.{Unread, Doubled, Orphan}
use Rattle.transcript_check.specs.Standing.{AreTaken, IsDenied, refusal}
use Rattle.transcript_check.specs.Transcripts.{AreRead, IsRefused}
use Rattle.least_pairs.proofs.Public.{some-same}

-- what the law of lines gives, as premises
pub record OneFact : Type 0 where
  pub one : (known : Known) (line : List ℕ) (after then : Known) (this that : Fact)
      → AreNamed known.names → Tells known line after this → Tells known line then that
      → (after ≡ then) × (this ≡ that)
  pub named : (known : Known) (line : List ℕ) (after : Known) (fact : Fact)
      → AreNamed known.names → Tells known line after fact → AreNamed after.names

heads : {A : Type 0} {x y : A} {xs ys : List A} → x ∷ xs ≡ y ∷ ys → x ≡ y
heads e = cc e

tails : {A : Type 0} {x y : A} {xs ys : List A} → x ∷ xs ≡ y ∷ ys → xs ≡ ys
tails e = cc e

-- what denies a line after known and facts denies it after the same ones
same-denied : (n m : Known) (f g : List Fact) (x y : List ℕ) (why : CheckFault) → m ≡ n → g ≡ f
    → y ≡ x → IsDenied n f x why → IsDenied m g y why
same-denied n m f g x y why known facts line d =
    subst (λ k. IsDenied k g y why) (sym known)
    (subst (λ h. IsDenied n h y why) (sym facts)
    (subst (λ l. IsDenied n f l why) (sym line) d))

-- a line that is read, and whose fact is refused so
abbrev IsReadAs : Known → List Fact → List ℕ → CheckFault → Type 0
IsReadAs known facts line why =
    (after : Known) × (fact : Fact) × Tells known line after fact × (refusal facts fact ≡ Some why)

module _ (law : OneFact) where
  clash : (known : Known) (facts : List Fact) (line : List ℕ) (why other : CheckFault)
      → AreNamed known.names → IsReadAs known facts line why → IsReadAs known facts line other
      → why ≡ other
  clash known facts line why other are d e =
      some-same (sym d.3 ∙ ap (refusal facts) (law.one known line d.0 e.0 d.1 e.1 are d.2 e.2).1 ∙ e.3)

  one-reason : (known : Known) (facts : List Fact) (line : List ℕ) (why other : CheckFault)
      → AreNamed known.names → IsDenied known facts line why → IsDenied known facts line other
      → why ≡ other
  one-reason known facts line Unread Unread are d e = refl
  one-reason known facts line Unread Doubled are d e = absurd (d e.0 e.1 e.2)
  one-reason known facts line Unread Orphan are d e = absurd (d e.0 e.1 e.2)
  one-reason known facts line Doubled Unread are d e = absurd (e d.0 d.1 d.2)
  one-reason known facts line Doubled Doubled are d e = refl
  one-reason known facts line Doubled Orphan are d e = clash known facts line Doubled Orphan are d e
  one-reason known facts line Orphan Unread are d e = absurd (e d.0 d.1 d.2)
  one-reason known facts line Orphan Doubled are d e = clash known facts line Orphan Doubled are d e
  one-reason known facts line Orphan Orphan are d e = refl

  -- no line is taken and refused
  not-both : (known : Known) (facts : List Fact) (line : List ℕ) (why : CheckFault)
      (after : Known) (fact : Fact) → AreNamed known.names → Tells known line after fact
      → refusal facts fact ≡ None → IsDenied known facts line why → ⊥
  not-both known facts line why after fact are reads free denied = go why denied
    where
      never : (why : CheckFault) → IsReadAs known facts line why → ⊥
      never why d =
          cc (sym free ∙ ap (refusal facts) (law.one known line after d.0 fact d.1 are reads d.2).1 ∙ d.3)

      go : (why : CheckFault) → IsDenied known facts line why → ⊥
      go Unread d = d after fact reads
      go Doubled d = never Doubled d
      go Orphan d = never Orphan d

  -- of two refusals in the same lines
  two : (known : Known) (facts : List Fact) → AreNamed known.names
      → (xs : List (List ℕ)) (x : List ℕ) (xt ys : List (List ℕ)) (y : List ℕ) (yt : List (List ℕ))
      → xs ++ x ∷ xt ≡ ys ++ y ∷ yt → (n m : Known) (f g : List Fact) (why other : CheckFault)
      → AreTaken known facts xs n f → IsDenied n f x why → AreTaken known facts ys m g
      → IsDenied m g y other → (length xs ≡ length ys) × (why ≡ other)
  two known facts are [] x xt [] y yt same n m f g why other t d u e = (
    refl,
    one-reason known facts x why other are (same-denied n known f facts x x why t.0 t.1 refl d)
        (same-denied m known g facts y x other u.0 u.1 (heads same) e),
  )
  two known facts are [] x xt (y1 ∷ ys) y yt same n m f g why other t d u e =
      absurd (not-both known facts y1 why u.0 u.1 are u.2 u.3
      (same-denied n known f facts x y1 why t.0 t.1 (sym (heads same)) d))
  two known facts are (x1 ∷ xs) x xt [] y yt same n m f g why other t d u e =
      absurd (not-both known facts x1 other t.0 t.1 are t.2 t.3
      (same-denied m known g facts y x1 other u.0 u.1 (heads same) e))
  two known facts are (x1 ∷ xs) x xt (y1 ∷ ys) y yt same n m f g why other t d u e =
      let again : Tells known x1 u.0 u.1 = subst (λ l. Tells known l u.0 u.1) (sym (heads same)) u.2 in
      let both = law.one known x1 t.0 u.0 t.1 u.1 are t.2 again in
      let rest : AreTaken t.0 (facts ++ t.1 ∷ []) ys m g =
      subst (λ ns. AreTaken ns (facts ++ t.1 ∷ []) ys m g) (sym both.0)
      (subst (λ h. AreTaken u.0 (facts ++ h ∷ []) ys m g) (sym both.1) u.4) in
      let r = two t.0 (facts ++ t.1 ∷ []) (law.named known x1 t.0 t.1 are t.2) xs x xt ys y yt
      (tails same) n m f g why other t.4 d rest e in
      (ap suc r.0, r.1)

  -- of a refusal in lines that are all taken
  none : (known : Known) (facts : List Fact) → AreNamed known.names
      → (xs : List (List ℕ)) (x : List ℕ) (xt zs : List (List ℕ)) → xs ++ x ∷ xt ≡ zs
      → (n m : Known) (f g : List Fact) (why : CheckFault) → AreTaken known facts xs n f
      → IsDenied n f x why → AreTaken known facts zs m g → ⊥
  none known facts are [] x xt [] same n m f g why t d u = cc same
  none known facts are [] x xt (z ∷ zs) same n m f g why t d u =
      not-both known facts z why u.0 u.1 are u.2 u.3
      (same-denied n known f facts x z why t.0 t.1 (sym (heads same)) d)
  none known facts are (x1 ∷ xs) x xt [] same n m f g why t d u = cc same
  none known facts are (x1 ∷ xs) x xt (z ∷ zs) same n m f g why t d u =
      let again : Tells known x1 u.0 u.1 = subst (λ l. Tells known l u.0 u.1) (sym (heads same)) u.2 in
      let both = law.one known x1 t.0 u.0 t.1 u.1 are t.2 again in
      let rest : AreTaken t.0 (facts ++ t.1 ∷ []) zs m g =
      subst (λ ns. AreTaken ns (facts ++ t.1 ∷ []) zs m g) (sym both.0)
      (subst (λ h. AreTaken u.0 (facts ++ h ∷ []) zs m g) (sym both.1) u.4) in
      none t.0 (facts ++ t.1 ∷ []) (law.named known x1 t.0 t.1 are t.2) xs x xt zs (tails same) n m f g
      why t.4 d rest

  no-names : AreNamed unnamed
  no-names = ((All-nil IsName, tt), (All-nil IsName, tt))

  pub one-refusal : (lines : List (List ℕ)) (number again : ℕ) (why other : CheckFault)
      → IsRefused lines number why → IsRefused lines again other → (number ≡ again) × (why ≡ other)
  one-refusal lines number again why other r s =
      let both = two nothing [] no-names r.earlier r.line r.later s.earlier s.line s.later (r.parts ∙ sym s.parts)
      r.read.known s.read.known r.read.facts s.read.facts why other r.read.taken r.denied s.read.taken
      s.denied in
      (r.number_is ∙ ap (λ n. n + 1) both.0 ∙ sym s.number_is, both.1)

  pub no-refusal : (lines : List (List ℕ)) (number : ℕ) (why : CheckFault) → IsRefused lines number why
      → AreRead lines → ⊥
  no-refusal lines number why r all =
      none nothing [] no-names r.earlier r.line r.later lines r.parts r.read.known all.known r.read.facts
      all.facts why r.read.taken r.denied all.taken
