-- The premises on control follow from its own legality.
use Rattle.std.proofs.Common.{◌≡◌, ◌⊎◌, ℕ, zero, suc, ◌<◌, ◌≤◌, max, Bool, true, false, not, cond, ◌&&◌, eqb, List, [], ◌∷◌, refl, sym, ap, ◌∙◌, subst, arith, inl, inr}
use Rattle.std.specs.List.{AllByRecursion}
use Rattle.std.proofs.lemmas.Bool.{cond-true, cases_eq, eqb-false, eq-eqb, and_from}
use Rattle.worker_races.specs.merge.Places.{Move}
use Rattle.worker_races.specs.merge.Marks.{Mark}
use Rattle.worker_races.specs.merge.Marks.{Control, Claim}
use Rattle.worker_races.specs.merge.inside.Moments.{IsAt, Grows, AllGrow}
use Rattle.worker_races.specs.merge.Merged.{numbered, Before}
use Rattle.worker_races.specs.merge.inside.Ordered.{next, settled, AreInOrder}

pub next_keeps : (s e r : ℕ) (past : List Mark) → r ≤ next s e r past
unfolding next
next_keeps s e r [] = omega arith
next_keeps s e r (Control n st ∷ past) = let ih = next_keeps s e r past in elim (eqb st.station s && eqb st.before e) as (λ b. r ≤ cond b (max st.shown (next s e r past)) (next s e r past)) [ true ↦ omega arith | false ↦ ih ]
next_keeps s e r (Claim x ∷ past) = let ih = next_keeps s e r past in elim (not x.refused && (eqb x.station s && eqb x.epoch e)) as (λ b. r ≤ cond b (max (suc x.number) (next s e r past)) (next s e r past)) [ true ↦ omega arith | false ↦ ih ]

InPast : Move → List Mark → Type 0
InPast u [] = ⊥
InPast u (Control n st ∷ past) = (st ≡ u) ⊎ InPast u past
InPast u (Claim x ∷ past) = InPast u past

next_shows : (s e r : ℕ) (u : Move) (past : List Mark) → u.station ≡ s → u.before ≡ e → InPast u past → u.shown ≤ next s e r past
unfolding next InPast
next_shows s e r u [] h k i = absurd i
next_shows s e r u (Claim x ∷ past) h k i = let ih = next_shows s e r u past h k i in
    elim (not x.refused && (eqb x.station s && eqb x.epoch e)) as (λ b. u.shown ≤ cond b (max (suc x.number) (next s e r past)) (next s e r past)) [ true ↦ omega arith | false ↦ ih ]
next_shows s e r u (Control n st ∷ past) h k (inr i) = let ih = next_shows s e r u past h k i in
    elim (eqb st.station s && eqb st.before e) as (λ b. u.shown ≤ cond b (max st.shown (next s e r past)) (next s e r past)) [ true ↦ omega arith | false ↦ ih ]
next_shows s e r u (Control n st ∷ past) h k (inl i) =
    let own : (eqb st.station s && eqb st.before e) ≡ true = and_from _ _ (eq-eqb _ _ (ap (λ w. w.station) i ∙ h)) (eq-eqb _ _ (ap (λ w. w.before) i ∙ k)) in
    let shown = ap (λ w. w.shown) i in
    subst (λ m. u.shown ≤ m) (sym (cond-true _ (max st.shown (next s e r past)) (next s e r past) own)) (omega arith)

-- where an own event stands in the past, the settled number is that of a moment at or after it
settled_shows : (s e r d : ℕ) (u : Move) (past : List Mark) → u.station ≡ s → InPast u past → (r ≤ settled s e r d past) × (u.before ≡ e → u.shown ≤ settled s e r d past)
unfolding settled InPast
settled_shows s e r d u [] h i = absurd i
settled_shows s e r d u (Claim x ∷ past) h i = settled_shows s e r d u past h i
settled_shows s e r d u (Control n st ∷ past) h i = go (eqb st.station s) refl (settled_shows s e r d u past h)
  where
    old : ℕ
    old = settled s e r d past

    all : ℕ
    all = next s e r (Control n st ∷ past)

    go : (b : Bool) → eqb st.station s ≡ b → (InPast u past → (r ≤ old) × (u.before ≡ e → u.shown ≤ old)) → (r ≤ cond b all old) × (u.before ≡ e → u.shown ≤ cond b all old)
    go true e' ih = (next_keeps s e r (Control n st ∷ past), λ k. next_shows s e r u (Control n st ∷ past) h k i)
    go false e' ih = elim i [ inl q ↦ absurd (eqb-false _ _ e' (ap (λ w. w.station) q ∙ h)) | inr q ↦ ih q ]

module _ (R : Before) where
  grows_from : (u : Move) (n : ℕ) (ss : List Move) (past : List Mark) → InPast u past → AreInOrder R past (numbered n ss) → AllByRecursion (Grows u) ss
  unfolding numbered InPast
  grows_from u n [] past i l = tt
  grows_from u n (st ∷ ss) past i l = (
    λ s b sh. elim (cases_eq st.after st.before) [
      | inl e ↦ (let a = l.0.1 sh e in let c = next_shows st.station st.before (R.next_of st.station st.before) u past (sym s) (sym b) i in omega arith)
      | inr e ↦ (let a = l.0.2 sh e in let c = (settled_shows st.station st.before (R.next_of st.station st.before) (R.settled_of st.station st.before) u past (sym s) i).1 (sym b) in omega arith)
    ],
    grows_from u (suc n) ss (Control n st ∷ past) (inr i) l.1,
  )

  pub grow_from : (n : ℕ) (ss : List Move) (past : List Mark) → AreInOrder R past (numbered n ss) → AllGrow ss
  unfolding numbered InPast
  grow_from n [] past l = tt
  grow_from n (st ∷ ss) past l = (grows_from st (suc n) ss (Control n st ∷ past) (inl refl) l.1, grow_from (suc n) ss (Control n st ∷ past) l.1)

  pub keeps_from : (n : ℕ) (ss : List Move) (past : List Mark) → AreInOrder R past (numbered n ss) → AllByRecursion (λ st. 0 < st.shown → st.after ≡ st.before → R.next_of st.station st.before ≤ st.shown) ss
  unfolding numbered
  keeps_from n [] past l = tt
  keeps_from n (st ∷ ss) past l = (λ sh e. let a = l.0.1 sh e in let b = next_keeps st.station st.before (R.next_of st.station st.before) past in omega arith, keeps_from (suc n) ss (Control n st ∷ past) l.1)

  later_in : (u : Move) (n : ℕ) (ss : List Move) (past : List Mark) → InPast u past → AreInOrder R past (numbered n ss) → (j : ℕ) (st : Move) → IsAt ss j st → u.station ≡ st.station → 0 < st.shown → R.next_of st.station st.before ≤ st.shown
  unfolding numbered InPast
  later_in u n [] past i l j st a s sh = absurd a
  later_in u n (v ∷ ss) past i l (suc j) st a s sh = later_in u (suc n) ss (Control n v ∷ past) (inr i) l.1 j st a s sh
  later_in u n (v ∷ ss) past i l zero st a s sh = subst (λ w. u.station ≡ w.station → 0 < w.shown → R.next_of w.station w.before ≤ w.shown) a here s sh
    where
      here : u.station ≡ v.station → 0 < v.shown → R.next_of v.station v.before ≤ v.shown
      here s sh = elim (cases_eq v.after v.before) [
        | inl e ↦ (let a = l.0.1 sh e in let b = next_keeps v.station v.before (R.next_of v.station v.before) past in omega arith)
        | inr e ↦ (let a = l.0.2 sh e in let b = (settled_shows v.station v.before (R.next_of v.station v.before) (R.settled_of v.station v.before) u past s i).0 in omega arith)
      ]

  pub later_from : (n : ℕ) (ss : List Move) (past : List Mark) → AreInOrder R past (numbered n ss)
      → (i j : ℕ) (u st : Move) → i < j → IsAt ss i u → IsAt ss j st → u.station ≡ st.station → 0 < st.shown → R.next_of st.station st.before ≤ st.shown
  unfolding numbered InPast
  later_from n [] past l i j u st lt a b s sh = absurd a
  later_from n (v ∷ ss) past l i zero u st lt a b s sh = absurd (omega arith)
  later_from n (v ∷ ss) past l zero (suc j) u st lt a b s sh = later_in u (suc n) ss (Control n v ∷ past) (inl a) l.1 j st b s sh
  later_from n (v ∷ ss) past l (suc i) (suc j) u st lt a b s sh = later_from (suc n) ss (Control n v ∷ past) l.1 i j u st (omega arith) a b s sh
