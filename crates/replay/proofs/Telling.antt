-- What a sink holds after a recorder was told reports.
use Rattle.std.proofs.Common.{◌≡◌, ℕ, List, [], ◌∷◌, ◌++◌, map, refl, sym, ap, ◌∙◌, subst, inr}
use Rattle.std.specs.Prelude.{◌⊎◌, Result, Err, MatchResult}
use Rattle.std.specs.Result.{IsErrAnd}
use Rattle.std.proofs.lemmas.Result.{err_from_is_err_and}
use Rattle.std.proofs.lemmas.List.{map-append}
use Rattle.lan_base.specs.declared.sink.Unwritten.{Unwritten}
use Rattle.lan_base.specs.declared.sink.Unwritten.TheVariants.{Memory}
use Rattle.lan_schedule.specs.Reports.{Report, AreTold}
use Rattle.replay.specs.Sinks.{Sunk, Wrote, Fails}
use Rattle.replay.specs.Shown.{text_of}
use Rattle.replay.proofs.Written.{wrote-more, fails-behind}

-- a recorder shows reports as texts on what is seen of its outlet
pub record Shows_on {K : Type 0} (Took : K → Report → K → Type 0)
    (Broke : K → Report → K → Unwritten → Type 0) (see : K → Sunk)
    (show : List Report → List (List ℕ)) : Type 0 where
  pub tells : (a b : K) (xs : List Report) → AreTold Took a xs b → Wrote (show xs) (see a) (see b)
  pub breaks : (a b c : K) (xs : List Report) (x : Report) (behind : List Report) (why : Unwritten)
      → AreTold Took a xs b → Broke b x c why → Fails (show (xs ++ x ∷ behind)) (see a) (see c) why

module _ {K : Type 0} (see : K → Sunk) where
  -- the transcript
  abbrev TookText : K → Report → K → Type 0
  TookText old report new = Wrote (text_of report ∷ []) (see old) (see new)

  abbrev BrokeText : K → Report → K → Unwritten → Type 0
  BrokeText old report new why = Fails (text_of report ∷ []) (see old) (see new) why

  texts-told : (a b : K) (xs : List Report) → AreTold TookText a xs b
      → Wrote (map text_of xs) (see a) (see b)
  texts-told a b [] told = sym (ap see told)
  texts-told a b (x ∷ later) told = wrote-more (text_of x ∷ []) (map text_of later) (see a)
      (see told.0) (see b) told.1 (texts-told told.0 b later told.2)

  texts-broken : (a b c : K) (xs : List Report) (x : Report) (behind : List Report) (why : Unwritten)
      → AreTold TookText a xs b → BrokeText b x c why
      → Fails (map text_of (xs ++ x ∷ behind)) (see a) (see c) why
  texts-broken a b c xs x behind why told f =
      subst (λ (l : List (List ℕ)). Fails l (see a) (see c) why)
      (sym (map-append text_of xs (x ∷ behind)))
      (fails-behind (map text_of xs) (text_of x) (map text_of behind) (see a) (see b) (see c) why
      (texts-told a b xs told) f)

  pub transcript-shows : Shows_on TookText BrokeText see (λ xs. map text_of xs)
  transcript-shows = record { tells = texts-told; breaks = texts-broken }

  -- nothing
  abbrev TookNothing : K → Report → K → Type 0
  TookNothing old report new = new ≡ old

  abbrev NeverBroke : K → Report → K → Unwritten → Type 0
  NeverBroke old report new why = ⊥

  nothing-told : (a b : K) (xs : List Report) → AreTold TookNothing a xs b → see b ≡ see a
  nothing-told a b [] told = sym (ap see told)
  nothing-told a b (x ∷ later) told = nothing-told told.0 b later told.2 ∙ ap see told.1

  pub nothing-shows : Shows_on TookNothing NeverBroke see (λ xs. [])
  nothing-shows = record {
    tells = nothing-told;
    breaks = λ a b c xs x behind why told broke. absurd broke;
  }

-- what a recorder rendered for itself alone leaves the outlet as it was
pub unwritten : {K : Type 0} (A : Unit {0} → Type 0) (B : Unwritten → Type 0) (now : K)
    (r : Result (Unit {0}) Unwritten) → IsErrAnd r (λ y. y ≡ Memory)
    → MatchResult r A (λ y. B y ⊎ ((y ≡ Memory) × (now ≡ now)))
unwritten A B now r is =
    let p = err_from_is_err_and r is in
    subst (λ (r : Result (Unit {0}) Unwritten). MatchResult r A (λ y. B y ⊎ ((y ≡ Memory) × (now ≡ now))))
    (sym (p.1 ∙ ap (λ (y : Unwritten). Err y) p.2)) (inr (refl, refl))

-- ---- what is ready

module _ {A : Type 0} (text : A → List ℕ) where
  -- one more text is ready
  pub ready-more : (xs : List A) (x : A) (reports : List Report) (report : Report)
      → map text xs ≡ map text_of reports → text x ≡ text_of report
      → map text (xs ++ x ∷ []) ≡ map text_of (reports ++ report ∷ [])
  ready-more xs x reports report before is =
      map-append text xs (x ∷ []) ∙ (λ i. before i ++ is i ∷ [])
      ∙ sym (map-append text_of reports (report ∷ []))

  -- the first that is ready is that of the first report
  pub ready-first : (xs : List A) (x : A) (rest : List A) (report : Report) (later : List Report)
      → xs ≡ x ∷ rest → map text xs ≡ map text_of (report ∷ later)
      → (text x ≡ text_of report) × (map text rest ≡ map text_of later)
  ready-first xs x rest report later parts is =
      let both : map text (x ∷ rest) ≡ map text_of (report ∷ later) =
      ap (λ (l : List A). map text l) (sym parts) ∙ is in (cc both, cc both)

  -- there is one
  pub ready-some : (xs : List A) (report : Report) (later : List Report) → xs ≡ []
      → map text xs ≡ map text_of (report ∷ later) → ⊥
  ready-some xs report later none is =
      let bad : [] ≡ map text_of (report ∷ later) = ap (λ (l : List A). map text l) (sym none) ∙ is in
      cc bad
