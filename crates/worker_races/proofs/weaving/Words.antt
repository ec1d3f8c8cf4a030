-- From what the current word was told to what the places ask of the logs.
use Rattle.std.proofs.Common.{◌≡◌, ◌⊎◌, ℕ, ◌<◌, ◌≤◌, Bool, true, false, cond, eqb, List, [], ◌∷◌, ◌++◌, refl, sym, ap, ◌∙◌, subst, arith, inl, inr, true≢false}
use Rattle.lan_base.specs.declared.association_number.AssociationNumber.{AssociationNumber}
use Rattle.std.proofs.lemmas.Bool.{cond-true, cond-false, cases_lt, cases_Bool, eqb-true, eqb-false}
use Rattle.association_slots.specs.declared.view.Current.{Current}
use Rattle.association_slots.specs.Views.{In, WasAbsent, absent_after, present_at}
use Rattle.worker_races.specs.merge.Places.{Move, Standing, Begun, Lives, Noted, last_of, standing_after}
use Rattle.worker_races.specs.merge.Words.{told_by, told_in}
use Rattle.worker_races.proofs.weaving.PlaceLemmas.{last_of-cases}

-- ---- lists

-- nothing present after an epoch, among what was told
AbsentIn : List Current → ℕ → Type 0
AbsentIn [] e = ⊥
AbsentIn (p ∷ ps) e = ((p.present ≡ false) × (p.epoch ≡ e)) ⊎ AbsentIn ps e

was-in : (ps qs : List Current) (e : ℕ) → WasAbsent (ps ++ qs) e → AbsentIn ps e ⊎ WasAbsent qs e
unfolding AbsentIn
was-in [] qs e was = inr was
was-in (p ∷ ps) qs e (inl here) = inl (inl here)
was-in (p ∷ ps) qs e (inr was) = elim (was-in ps qs e was) [ inl i ↦ inl (inr i) | inr o ↦ inr o ]

absent-parts : (ps qs : List Current) (e : ℕ) → AbsentIn (ps ++ qs) e → AbsentIn ps e ⊎ AbsentIn qs e
unfolding AbsentIn
absent-parts [] qs e was = inr was
absent-parts (p ∷ ps) qs e (inl here) = inl (inl here)
absent-parts (p ∷ ps) qs e (inr was) = elim (absent-parts ps qs e was) [ inl i ↦ inl (inr i) | inr o ↦ inr o ]

in-parts : (p : Current) (ps qs : List Current) → In p (ps ++ qs) → In p ps ⊎ In p qs
in-parts p [] qs i = inr i
in-parts p (q ∷ ps) qs (inl e) = inl (inl e)
in-parts p (q ∷ ps) qs (inr i) = elim (in-parts p ps qs i) [ inl a ↦ inl (inr a) | inr b ↦ inr b ]

-- ---- notes

start : (now : Standing) (a s : ℕ) (ms : List Move) → now.transmitting ≡ 0 × now.pointed ≡ a → Noted s now a ms
start now a s [] h = h
start now a s (m ∷ ms) h = inl h

-- what one step told: a moment within it, or one after it
moment : (ans : ℕ → AssociationNumber) (top a : ℕ) (m : Move) → AbsentIn (told_by ans top m) a
    → (m.gap ≡ true × top ≡ a) ⊎ (m.after ≡ 0 × top ≡ a)
unfolding AbsentIn
moment ans top a m was = go m.gap (eqb m.after m.before) (eqb m.after 0) refl refl refl was
  where
    go : (g x y : Bool) → m.gap ≡ g → eqb m.after m.before ≡ x → eqb m.after 0 ≡ y
        → AbsentIn (cond g (present_at (ans m.after) m.after ∷ absent_after top ∷ [])
        (cond x [] (cond y (absent_after top ∷ []) (present_at (ans m.after) m.after ∷ [])))) a
        → (m.gap ≡ true × top ≡ a) ⊎ (m.after ≡ 0 × top ≡ a)
    go true x y g p q (inl h) = absurd (true≢false h.0)
    go true x y g p q (inr (inl h)) = inl (g, h.1)
    go true x y g p q (inr (inr h)) = absurd h
    go false true y g p q h = absurd h
    go false false true g p q (inl h) = inr (eqb-true m.after 0 q, h.1)
    go false false true g p q (inr h) = absurd h
    go false false false g p q (inl h) = absurd (true≢false h.0)
    go false false false g p q (inr h) = absurd h

noted-in : (ans : ℕ → AssociationNumber) (s a : ℕ) (ms : List Move) (now : Standing)
    → AbsentIn (told_in ans s now.pointed ms) a → Noted s now a ms
unfolding told_in AbsentIn
noted-in ans s a [] now was = absurd was
noted-in ans s a (m ∷ ms) now was = elim (cases_Bool (eqb m.station s)) [
  | inr other ↦ inr (inr (inr (
    eqb-false m.station s other,
    noted-in ans s a ms now (subst (λ ps. AbsentIn ps a) (cond-false (eqb m.station s) _ _ other) was),
  )))
  | inl own ↦ (let same : m.station ≡ s = eqb-true m.station s own in
      elim (absent-parts (told_in ans s (last_of now.pointed m) ms) (told_by ans now.pointed m) a
      (subst (λ ps. AbsentIn ps a) (cond-true (eqb m.station s) _ _ own) was)) [
        | inl later ↦ inr (inr (inl (same, noted-in ans s a ms (standing_after now m) later)))
        | inr here ↦ elim (moment ans now.pointed a m here) [
          | inl gap ↦ inr (inl (same, gap.0, gap.1))
          | inr gone ↦ inr (inr (inl (
            same,
            start (standing_after now m) a s ms
                (gone.0, (elim (last_of-cases now.pointed m) [ inl c ↦ (let z = gone.0 in let l = c.0 in absurd (omega (arith, z, l))) | inr c ↦ c.1 ∙ gone.1 ])),
          )))
        ]
      ])
]

-- A note of nothing present after an epoch that is not below the last one before the race was made
-- where the places ask for it.
pub noted : (ans : ℕ → AssociationNumber) (s a : ℕ) (ms : List Move) (now : Standing) (old : List Current)
    → (WasAbsent old a → (a ≤ now.pointed) × (0 < now.transmitting → a < now.pointed)) → now.pointed ≤ a
    → WasAbsent (told_in ans s now.pointed ms ++ old) a → Noted s now a ms
noted ans s a ms now old low high was = elim (was-in (told_in ans s now.pointed ms) old a was) [
  | inl new ↦ noted-in ans s a ms now new
  | inr before ↦ (let b = low before in start now a s ms (none b, (let c = b.0 in omega (arith, c, high))))
]
  where
    none : (a ≤ now.pointed) × (0 < now.transmitting → a < now.pointed) → now.transmitting ≡ 0
    none b = elim (cases_lt 0 now.transmitting) [ inl some ↦ absurd (let c = b.1 some in omega (arith, c, high)) | inr zero ↦ omega (arith, zero) ]

-- ---- claims

point-by : (ans : ℕ → AssociationNumber) (top : ℕ) (an : AssociationNumber) (e : ℕ) (m : Move) → In (present_at an e) (told_by ans top m) → (m.after ≡ e) × (ans e ≡ an)
point-by ans top an e m i = go m.gap (eqb m.after m.before) (eqb m.after 0) i
  where
    same : present_at (ans m.after) m.after ≡ present_at an e → (m.after ≡ e) × (ans e ≡ an)
    same h = let a : m.after ≡ e = ap (λ p. p.epoch) h in let b : ans m.after ≡ an = ap (λ p. p.an) h in (a, sym (ap ans a) ∙ b)

    other : absent_after top ≡ present_at an e → ⊥
    other h = true≢false (sym (ap (λ p. p.present) h))

    go : (g x y : Bool) → In (present_at an e) (cond g (present_at (ans m.after) m.after ∷ absent_after top ∷ [])
        (cond x [] (cond y (absent_after top ∷ []) (present_at (ans m.after) m.after ∷ [])))) → (m.after ≡ e) × (ans e ≡ an)
    go true x y (inl h) = same h
    go true x y (inr (inl h)) = absurd (other h)
    go true x y (inr (inr h)) = absurd h
    go false true y h = absurd h
    go false false true (inl h) = absurd (other h)
    go false false true (inr h) = absurd h
    go false false false (inl h) = same h
    go false false false (inr h) = absurd h

-- an epoch that was pointed at in the race began in it, under its AN
pub begun-in : (ans : ℕ → AssociationNumber) (s : ℕ) (an : AssociationNumber) (e : ℕ) (ms : List Move) (top : ℕ) → In (present_at an e) (told_in ans s top ms)
    → Begun s e ms × (ans e ≡ an)
unfolding told_in
begun-in ans s an e [] top i = absurd i
begun-in ans s an e (m ∷ ms) top i = elim (cases_Bool (eqb m.station s)) [
  | inr other ↦ (let b = begun-in ans s an e ms top (subst (In (present_at an e)) (cond-false (eqb m.station s) _ _ other) i) in (inr b.0, b.1))
  | inl own ↦ elim (in-parts (present_at an e) (told_in ans s (last_of top m) ms) (told_by ans top m)
      (subst (In (present_at an e)) (cond-true (eqb m.station s) _ _ own) i)) [
        | inl later ↦ (let b = begun-in ans s an e ms (last_of top m) later in (inr b.0, b.1))
        | inr here ↦ (let b = point-by ans top an e m here in (inl (eqb-true m.station s own, b.0), b.1))
      ]
]

-- A claimed epoch, that is not below the last one before the race, and above it where nothing was
-- present then, lives in the race.
pub lives : (ans : ℕ → AssociationNumber) (s : ℕ) (an : AssociationNumber) (e : ℕ) (ms : List Move) (now : Standing) (old : List Current)
    → (0 < now.transmitting → now.transmitting ≡ now.pointed) → (In (present_at an e) old → e ≤ now.pointed) → now.pointed ≤ e → (now.transmitting ≡ 0 → now.pointed < e)
    → In (present_at an e) (told_in ans s now.pointed ms ++ old) → Lives s now e ms
lives ans s an e ms now old present low high above i =
    elim (in-parts (present_at an e) (told_in ans s now.pointed ms) old i) [
      | inl new ↦ inr (begun-in ans s an e ms now.pointed new).0
      | inr before ↦ inl (elim (cases_lt 0 now.transmitting) [
        | inl some ↦ (let a = present some in let b = low before in omega (arith, a, b, high))
        | inr zero ↦ absurd (let a = above (omega (arith, zero)) in let b = low before in omega (arith, a, b))
      ])
    ]
