-- Where entries stand among the steps.
use Rattle.std.proofs.Common.{◌≡◌, ◌⊎◌, ℕ, zero, suc, ◌<◌, ◌≤◌, Bool, true, false, not, cond, ◌&&◌, ◌||◌, eqb, ltb, List, [], ◌∷◌, refl, sym, ap, ◌∙◌, subst, arith, inl, inr, true≢false}
use Rattle.std.specs.List.{AllByRecursion}
use Rattle.std.proofs.lemmas.Bool.{cond-true, cond-false, cases_Bool, cases_eq, cases_lt, ltb-true, eqb-true, eqb-false, lt-ltb, le-ltb, eq-eqb, ne_eqb, and_parts, or_cases, and_from, not-true, both_ways}
use Rattle.worker_races.specs.merge.Places.{Move}
use Rattle.worker_races.specs.merge.Places.{Attempt}
use Rattle.worker_races.specs.merge.Places.{Standing, ends, place, Moves, last_of, standing_after, Follows, Begun, Lives, Noted}
use Rattle.worker_races.specs.merge.inside.Moments.{stands, Replaced, IsAt, Grows, AllGrow}

pub place-here : (x : Attempt) (st : Move) (sts : List Move) → ends x st ≡ true → place x (st ∷ sts) ≡ 0
unfolding place
place-here x st sts h = cond-true _ _ _ h

pub place-next : (x : Attempt) (st : Move) (sts : List Move) → ends x st ≡ false → place x (st ∷ sts) ≡ suc (place x sts)
unfolding place
place-next x st sts h = cond-false _ _ _ h

pub place-nil : (x : Attempt) → place x [] ≡ 0
unfolding place
place-nil x = refl

-- what a test of an entry says
pub record TakenEnd (x : Attempt) (st : Move) : Type 0 where
  pub here : st.station ≡ x.station
  pub under : st.before ≡ x.epoch
  pub over : (x.number < st.shown) ⊎ (st.after ≡ x.epoch → ⊥)

pub taken_ends : (x : Attempt) (st : Move) → x.refused ≡ false → ends x st ≡ true → TakenEnd x st
unfolding ends
taken_ends x st r h =
    let a = and_parts _ _ h in
    let b = and_parts _ _ (subst (λ b. cond b (ltb x.epoch st.after) (eqb st.before x.epoch && (ltb x.number st.shown || not (eqb st.after x.epoch))) ≡ true) r a.1) in
    record { here = eqb-true _ _ a.0; under = eqb-true _ _ b.0; over = elim (or_cases _ _ b.1) [ inl l ↦ inl (ltb-true _ _ l) | inr n ↦ inr (eqb-false _ _ (not-true _ n)) ] }

pub taken_ends_from : (x : Attempt) (st : Move) → x.refused ≡ false → TakenEnd x st → ends x st ≡ true
unfolding ends
taken_ends_from x st r t =
    and_from _ _ (eq-eqb _ _ t.here) (subst (λ b. cond b (ltb x.epoch st.after) (eqb st.before x.epoch && (ltb x.number st.shown || not (eqb st.after x.epoch))) ≡ true) (sym r)
    (and_from _ _ (eq-eqb _ _ t.under) (or_in t.over)))
  where
    or_in : (x.number < st.shown) ⊎ (st.after ≡ x.epoch → ⊥) → (ltb x.number st.shown || not (eqb st.after x.epoch)) ≡ true
    or_in (inl l) = rw (lt-ltb _ _ l) refl
    or_in (inr n) = rw (ne_eqb _ _ n) (elim (ltb x.number st.shown) as (λ b. (b || true) ≡ true) [ true ↦ refl | false ↦ refl ])

pub refused_ends : (x : Attempt) (st : Move) → x.refused ≡ true → ends x st ≡ true → (st.station ≡ x.station) × (x.epoch < st.after)
unfolding ends
refused_ends x st r h =
    let a = and_parts _ _ h in
    (eqb-true _ _ a.0, ltb-true _ _ (subst (λ b. cond b (ltb x.epoch st.after) (eqb st.before x.epoch && (ltb x.number st.shown || not (eqb st.after x.epoch))) ≡ true) r a.1))

pub refused_ends_from : (x : Attempt) (st : Move) → x.refused ≡ true → st.station ≡ x.station → x.epoch < st.after → ends x st ≡ true
unfolding ends
refused_ends_from x st r s l =
    and_from _ _ (eq-eqb _ _ s) (subst (λ b. cond b (ltb x.epoch st.after) (eqb st.before x.epoch && (ltb x.number st.shown || not (eqb st.after x.epoch))) ≡ true) (sym r) (lt-ltb _ _ l))

pub place_mono : (x y : Attempt) → ((st : Move) → ends y st ≡ true → ends x st ≡ true) → (sts : List Move) → place x sts ≤ place y sts
place_mono x y sooner [] = let a = place-nil x in omega arith
place_mono x y sooner (st ∷ sts) = go (ends y st) (ends x st) refl refl (place_mono x y sooner sts)
  where
    go : (b a : Bool) → ends y st ≡ b → ends x st ≡ a → place x sts ≤ place y sts → place x (st ∷ sts) ≤ place y (st ∷ sts)
    go b true f e ih = let h = place-here x st sts e in omega arith
    go true false f e ih = absurd (both_ways _ e (sooner st f))
    go false false f e ih = let h = place-next x st sts e in let k = place-next y st sts f in omega arith

-- what it says where it fails
pub taken_passed : (x : Attempt) (st : Move) → x.refused ≡ false → ends x st ≡ false → st.station ≡ x.station → st.before ≡ x.epoch → (st.shown ≤ x.number) × (st.after ≡ x.epoch)
taken_passed x st r h s b = (
  elim (cases_lt x.number st.shown) [ inl l ↦ absurd (both_ways _ h (taken_ends_from x st r (record { here = s; under = b; over = inl l }))) | inr k ↦ k ],
  elim (cases_eq st.after x.epoch) [ inl e ↦ e | inr n ↦ absurd (both_ways _ h (taken_ends_from x st r (record { here = s; under = b; over = inr n }))) ],
)

pub refused_passed : (x : Attempt) (st : Move) → x.refused ≡ true → ends x st ≡ false → st.station ≡ x.station → st.after ≤ x.epoch
refused_passed x st r h s = elim (cases_lt x.epoch st.after) [ inl l ↦ absurd (both_ways _ h (refused_ends_from x st r s l)) | inr k ↦ k ]

pub last_of-cases : (top : ℕ) (st : Move) → (top < st.after × last_of top st ≡ st.after) ⊎ (st.after ≤ top × last_of top st ≡ top)
last_of-cases top st = elim (cases_lt top st.after) [ inl l ↦ inl (l, cond-true _ _ _ (lt-ltb _ _ l)) | inr k ↦ inr (k, cond-false _ _ _ (le-ltb _ _ k)) ]

-- a later beginning is above what was pointed at
pub begun_above : (s e : ℕ) (sts : List Move) (now : Standing) → 0 < e → now.transmitting ≤ now.pointed → Follows s now sts → Begun s e sts
    → (e ≡ now.transmitting) ⊎ (now.pointed < e)
begun_above s e [] now pos le f b = absurd b
begun_above s e (st ∷ sts) now pos le (inr n) (inl b) = absurd (n.0 b.0)
begun_above s e (st ∷ sts) now pos le (inr n) (inr b) = begun_above s e sts now pos le n.1 b
begun_above s e (st ∷ sts) now pos le (inl m) b = from (λ le' g. begun_above s e sts (standing_after now st) pos le' m.3 g) m.2 b
  where
    moved : Moves now st → st.after ≡ e → (e ≡ now.transmitting) ⊎ (now.pointed < e)
    moved (inl k) h = inl (omega arith)
    moved (inr (inl k)) h = absurd (omega arith)
    moved (inr (inr k)) h = inr (omega arith)

    from : (st.after ≤ last_of now.pointed st → Begun s e sts → (e ≡ st.after) ⊎ (last_of now.pointed st < e)) → Moves now st
        → (st.station ≡ s × st.after ≡ e) ⊎ Begun s e sts → (e ≡ now.transmitting) ⊎ (now.pointed < e)
    from ih v (inl b) = moved v b.1
    from ih v (inr b) = elim (last_of-cases now.pointed st) [
      | inl c ↦ elim (ih (omega arith) b) [ inl h ↦ moved v (sym h) | inr h ↦ inr (omega arith) ]
      | inr c ↦ elim (ih (omega arith) b) [ inl h ↦ moved v (sym h) | inr h ↦ inr (omega arith) ]
    ]

stands-next : (s t : ℕ) (st : Move) (sts : List Move) (n : ℕ) → st.station ≡ s → stands s t (st ∷ sts) (suc n) ≡ stands s st.after sts n
unfolding stands
stands-next s t st sts n h = ap (λ u. stands s u sts n) (cond-true _ _ _ (eq-eqb _ _ h))

stands-other : (s t : ℕ) (st : Move) (sts : List Move) (n : ℕ) → (st.station ≡ s → ⊥) → stands s t (st ∷ sts) (suc n) ≡ stands s t sts n
unfolding stands
stands-other s t st sts n h = ap (λ u. stands s u sts n) (cond-false _ _ _ (ne_eqb _ _ h))

pub stands-zero : (s t : ℕ) (sts : List Move) → stands s t sts 0 ≡ t
unfolding stands
stands-zero s t [] = refl
stands-zero s t (st ∷ sts) = refl

-- A taken entry stands where its key transmits.
pub taken_stands : (x : Attempt) → x.refused ≡ false → (sts : List Move) (now : Standing) → Follows x.station now sts → Lives x.station now x.epoch sts → stands x.station now.transmitting sts (place x sts) ≡ x.epoch
taken_stands x r [] now f (inl e) = rw (place-nil x) (stands-zero x.station now.transmitting [] ∙ e)
taken_stands x r [] now f (inr b) = absurd b
taken_stands x r (st ∷ sts) now (inr n) l = go (taken_stands x r sts now n.1) (ends x st) refl
  where
    rest : Lives x.station now x.epoch (st ∷ sts) → Lives x.station now x.epoch sts
    rest (inl e) = inl e
    rest (inr (inl b)) = absurd (n.0 b.0)
    rest (inr (inr b)) = inr b

    go : (Lives x.station now x.epoch sts → stands x.station now.transmitting sts (place x sts) ≡ x.epoch) → (b : Bool) → ends x st ≡ b → stands x.station now.transmitting (st ∷ sts) (place x (st ∷ sts)) ≡ x.epoch
    go ih true h = absurd (n.0 (taken_ends x st r h).here)
    go ih false h = rw (place-next x st sts h) (stands-other x.station now.transmitting st sts (place x sts) n.0 ∙ ih (rest l))
taken_stands x r (st ∷ sts) now (inl m) l = go (taken_stands x r sts (standing_after now st) m.3) (ends x st) refl
  where
    rest : ends x st ≡ false → Lives x.station now x.epoch (st ∷ sts) → Lives x.station (standing_after now st) x.epoch sts
    rest h (inl e) = inl (taken_passed x st r h m.0 (m.1 ∙ e)).1
    rest h (inr (inl b)) = inl b.1
    rest h (inr (inr b)) = inr b

    go : (Lives x.station (standing_after now st) x.epoch sts → stands x.station st.after sts (place x sts) ≡ x.epoch) → (b : Bool) → ends x st ≡ b → stands x.station now.transmitting (st ∷ sts) (place x (st ∷ sts)) ≡ x.epoch
    go ih true h = rw (place-here x st sts h) (stands-zero x.station now.transmitting (st ∷ sts) ∙ (sym m.1 ∙ (taken_ends x st r h).under))
    go ih false h = rw (place-next x st sts h) (stands-next x.station now.transmitting st sts (place x sts) m.0 ∙ ih (rest h l))

-- ---- how the places of two entries of a station compare

pub place_step : (x y : Attempt) (st : Move) (sts : List Move) → (ends y st ≡ true → ends x st ≡ true) → (ends x st ≡ false → ends y st ≡ false → place x sts ≤ place y sts) → place x (st ∷ sts) ≤ place y (st ∷ sts)
place_step x y st sts sooner ih = go (ends x st) (ends y st) refl refl
  where
    go : (a b : Bool) → ends x st ≡ a → ends y st ≡ b → place x (st ∷ sts) ≤ place y (st ∷ sts)
    go true b e f = let h = place-here x st sts e in omega arith
    go false true e f = absurd (both_ways _ e (sooner f))
    go false false e f = let k = ih e f in let h = place-next x st sts e in let g = place-next y st sts f in omega arith

last_above : (top : ℕ) (st : Move) → st.after ≤ last_of top st
last_above top st = elim (last_of-cases top st) [ inl c ↦ omega arith | inr c ↦ omega arith ]

-- an attempt that took a number of an epoch, which transmits now or after a later step; and what transmits was pointed at
pub record IsTaken (x : Attempt) (now : Standing) (sts : List Move) : Type 0 where
  pub taken : x.refused ≡ false
  pub some : 0 < x.epoch
  pub low : now.transmitting ≤ now.pointed
  pub goes : Follows x.station now sts
  pub lives : Lives x.station now x.epoch sts

-- so it is behind the first step, which is of another station, or of its own where that does not end the attempt's time
data Onward (x : Attempt) (now : Standing) (st : Move) (sts : List Move) : Type 0 where
  other : (st.station ≡ x.station → ⊥) → IsTaken x now sts → Onward x now st sts
  own : st.before ≡ now.transmitting → (ends x st ≡ false → IsTaken x (standing_after now st) sts) → Onward x now st sts

onward : (x : Attempt) (now : Standing) (st : Move) (sts : List Move) → IsTaken x now (st ∷ sts) → Onward x now st sts
onward x now st sts t = elim t.goes [
  | inr n ↦ other n.0 (record { taken = t.taken; some = t.some; low = t.low; goes = n.1; lives = past n.0 t.lives })
  | inl m ↦ own m.1 (λ e. record { taken = t.taken; some = t.some; low = last_above now.pointed st; goes = m.3; lives = on m.0 m.1 e t.lives })
]
  where
    past : (st.station ≡ x.station → ⊥) → Lives x.station now x.epoch (st ∷ sts) → Lives x.station now x.epoch sts
    past n (inl h) = inl h
    past n (inr (inl g)) = absurd (n g.0)
    past n (inr (inr g)) = inr g

    on : st.station ≡ x.station → st.before ≡ now.transmitting → ends x st ≡ false → Lives x.station now x.epoch (st ∷ sts) → Lives x.station (standing_after now st) x.epoch sts
    on s b h (inl e) = inl (taken_passed x st t.taken h s (b ∙ e)).1
    on s b h (inr (inl g)) = inl g.1
    on s b h (inr (inr g)) = inr g

-- what transmits is not of a later epoch
transmits_low : (x : Attempt) (sts : List Move) (now : Standing) → IsTaken x now sts → now.transmitting ≤ x.epoch
transmits_low x sts now t = elim t.lives [
  | inl k ↦ omega arith
  | inr b ↦ elim (begun_above x.station x.epoch sts now t.some t.low t.goes b) [ inl k ↦ omega arith | inr k ↦ (let low = t.low in omega arith) ]
]

pub taken_taken : (x y : Attempt) → y.refused ≡ false → y.station ≡ x.station → x.epoch < y.epoch → (sts : List Move) (now : Standing)
    → IsTaken x now sts → place x sts ≤ place y sts
taken_taken x y r s up [] now t = let a = place-nil x in omega arith
taken_taken x y r s up (st ∷ sts) now t = elim (onward x now st sts t) [
  | other n rest ↦ place_step x y st sts (λ h. absurd (n ((taken_ends y st r h).here ∙ s))) (λ e g. taken_taken x y r s up sts now rest)
  | own before rest ↦ place_step x y st sts
      (λ h. absurd (let low = transmits_low x (st ∷ sts) now t in let q = (taken_ends y st r h).under in omega arith))
      (λ e g. taken_taken x y r s up sts (standing_after now st) (rest e))
]

pub taken_refused : (x y : Attempt) → y.refused ≡ true → y.station ≡ x.station → x.epoch ≤ y.epoch → (sts : List Move) (now : Standing)
    → IsTaken x now sts → place x sts ≤ place y sts
taken_refused x y r s up [] now t = let a = place-nil x in omega arith
taken_refused x y r s up (st ∷ sts) now t = elim (onward x now st sts t) [
  | other n rest ↦ place_step x y st sts (λ h. absurd (n ((refused_ends y st r h).0 ∙ s))) (λ e g. taken_refused x y r s up sts now rest)
  | own before rest ↦ place_step x y st sts (λ h. ended rest (refused_ends y st r h).1) (λ e g. taken_refused x y r s up sts (standing_after now st) (rest e))
]
  where
    ended : (ends x st ≡ false → IsTaken x (standing_after now st) sts) → y.epoch < st.after → ends x st ≡ true
    ended rest later = elim (cases_Bool (ends x st)) [
      | inl h ↦ h
      | inr h ↦ absurd (let low : st.after ≤ x.epoch = transmits_low x sts (standing_after now st) (rest h) in omega arith)
    ]

pub refused_taken : (x y : Attempt) → x.refused ≡ true → y.refused ≡ false → y.station ≡ x.station → x.epoch < y.epoch → (sts : List Move) (now : Standing) → now.transmitting ≤ x.epoch → Follows x.station now sts
    → place x sts ≤ place y sts
refused_taken x y r r' s up [] now le f = let a = place-nil x in omega arith
refused_taken x y r r' s up (st ∷ sts) now le (inr n) =
    place_step x y st sts (λ h. absurd (n.0 ((taken_ends y st r' h).here ∙ s))) (λ e g. refused_taken x y r r' s up sts now le n.1)
refused_taken x y r r' s up (st ∷ sts) now le (inl m) =
    place_step x y st sts (λ h. absurd (let q = (taken_ends y st r' h).under in let b = m.1 in omega arith))
    (λ e g. refused_taken x y r r' s up sts (standing_after now st) (refused_passed x st r e m.0) m.3)

pub refused_refused : (x y : Attempt) → x.refused ≡ true → y.refused ≡ true → y.station ≡ x.station → x.epoch ≤ y.epoch → (sts : List Move) → place x sts ≤ place y sts
refused_refused x y r r' s up sts = place_mono x y (λ st h. let q = refused_ends y st r' h in refused_ends_from x st r (q.0 ∙ s) (let b = q.1 in omega arith)) sts

pub taken_rises : (x y : Attempt) → x.refused ≡ false → y.refused ≡ false → y.station ≡ x.station → x.epoch ≡ y.epoch → x.number ≤ y.number → (sts : List Move) → place x sts ≤ place y sts
taken_rises x y r r' s same up sts = place_mono x y (λ st h. let q = taken_ends y st r' h in taken_ends_from x st r (record { here = q.here ∙ s; under = q.under ∙ sym same; over = later st q.over })) sts
  where
    later : (st : Move) → (y.number < st.shown) ⊎ (st.after ≡ y.epoch → ⊥) → (x.number < st.shown) ⊎ (st.after ≡ x.epoch → ⊥)
    later st (inl l) = inl (omega arith)
    later st (inr n) = inr (λ q. n (q ∙ same))

-- ---- refused claims are excused

noted_above : (s a : ℕ) (sts : List Move) (now : Standing) → Noted s now a sts → now.pointed ≤ a
noted_above s a [] now n = let q = n.1 in omega arith
noted_above s a (st ∷ sts) now (inl n) = let q = n.1 in omega arith
noted_above s a (st ∷ sts) now (inr (inl n)) = let q = n.2 in omega arith
noted_above s a (st ∷ sts) now (inr (inr (inl n))) = let q = noted_above s a sts (standing_after now st) n.1 in elim (last_of-cases now.pointed st) [ inl c ↦ omega arith | inr c ↦ omega arith ]
noted_above s a (st ∷ sts) now (inr (inr (inr n))) = noted_above s a sts now n.1

-- where nothing is present, nothing is until the place
absent : (x : Attempt) → x.refused ≡ true → (sts : List Move) (now : Standing) → now.transmitting ≡ 0 → now.pointed ≡ x.epoch → Follows x.station now sts → stands x.station now.transmitting sts (place x sts) ≡ 0
absent x r [] now z e f = rw (place-nil x) (stands-zero x.station now.transmitting [] ∙ z)
absent x r (st ∷ sts) now z e (inr n) = go (absent x r sts now z e n.1) (ends x st) refl
  where
    go : stands x.station now.transmitting sts (place x sts) ≡ 0 → (b : Bool) → ends x st ≡ b → stands x.station now.transmitting (st ∷ sts) (place x (st ∷ sts)) ≡ 0
    go ih true h = absurd (n.0 (refused_ends x st r h).0)
    go ih false h = rw (place-next x st sts h) (stands-other x.station now.transmitting st sts (place x sts) n.0 ∙ ih)
absent x r (st ∷ sts) now z e (inl m) = go (λ z' e'. absent x r sts (standing_after now st) z' e' m.3) m.2 (ends x st) refl
  where
    go : (st.after ≡ 0 → last_of now.pointed st ≡ x.epoch → stands x.station st.after sts (place x sts) ≡ 0) → Moves now st → (b : Bool) → ends x st ≡ b → stands x.station now.transmitting (st ∷ sts) (place x (st ∷ sts)) ≡ 0
    go ih v true h = rw (place-here x st sts h) (stands-zero x.station now.transmitting (st ∷ sts) ∙ z)
    go ih v false h =
        let low = refused_passed x st r h m.0 in
        let none : st.after ≡ 0 = elim v [ inl k ↦ omega arith | inr w ↦ elim w [ inl k ↦ omega arith | inr k ↦ absurd (omega arith) ] ] in
        let same : last_of now.pointed st ≡ x.epoch = elim (last_of-cases now.pointed st) [ inl c ↦ absurd (omega arith) | inr c ↦ omega arith ] in
        rw (place-next x st sts h) (stands-next x.station now.transmitting st sts (place x sts) m.0 ∙ ih none same)

replaced-here : (s : ℕ) (st : Move) (sts : List Move) → st.station ≡ s → st.gap ≡ true → Replaced s (st ∷ sts) 0
unfolding Replaced
replaced-here s st sts h g = inl (h, g)

replaced-next : (s : ℕ) (st : Move) (sts : List Move) (n : ℕ) → Replaced s sts n → Replaced s (st ∷ sts) (suc n)
unfolding Replaced
replaced-next s st sts n h = h

unfoldable pub Excused : ℕ → ℕ → List Move → ℕ → Type 0
Excused s t sts n = (stands s t sts n ≡ 0) ⊎ Replaced s sts n

excused_on : (x : Attempt) (st : Move) (sts : List Move) (t : ℕ) → st.station ≡ x.station → ends x st ≡ false → Excused x.station st.after sts (place x sts) → Excused x.station t (st ∷ sts) (place x (st ∷ sts))
unfolding Excused
excused_on x st sts t s h (inl k) = inl (rw (place-next x st sts h) (stands-next x.station t st sts (place x sts) s ∙ k))
excused_on x st sts t s h (inr k) = inr (rw (place-next x st sts h) (replaced-next x.station st sts (place x sts) k))

excused_past : (x : Attempt) → x.refused ≡ true → (st : Move) (sts : List Move) (t : ℕ) → (st.station ≡ x.station → ⊥) → Excused x.station t sts (place x sts) → Excused x.station t (st ∷ sts) (place x (st ∷ sts))
unfolding Excused
excused_past x r st sts t n k = go (ends x st) refl k
  where
    go : (b : Bool) → ends x st ≡ b → Excused x.station t sts (place x sts) → Excused x.station t (st ∷ sts) (place x (st ∷ sts))
    go true h k = absurd (n (refused_ends x st r h).0)
    go false h (inl k) = inl (rw (place-next x st sts h) (stands-other x.station t st sts (place x sts) n ∙ k))
    go false h (inr k) = inr (rw (place-next x st sts h) (replaced-next x.station st sts (place x sts) k))

pub refused_excused : (x : Attempt) → x.refused ≡ true → (sts : List Move) (now : Standing) → Follows x.station now sts → Noted x.station now x.epoch sts → Excused x.station now.transmitting sts (place x sts)
unfolding Excused
refused_excused x r [] now f n = inl (rw (place-nil x) (stands-zero x.station now.transmitting [] ∙ n.0))
refused_excused x r (st ∷ sts) now f (inl n) = inl (absent x r (st ∷ sts) now n.0 n.1 f)
refused_excused x r (st ∷ sts) now (inr f) (inr (inl n)) = absurd (f.0 n.0)
refused_excused x r (st ∷ sts) now (inl m) (inr (inl n)) =
    let up : now.pointed < st.after = elim m.2 [ inl k ↦ absurd (true≢false (sym n.1 ∙ k.1)) | inr w ↦ elim w [ inl k ↦ absurd (true≢false (sym n.1 ∙ k.1)) | inr k ↦ k.0 ] ] in
    let h = refused_ends_from x st r n.0 (let q = n.2 in omega arith) in
    inr (rw (place-here x st sts h) (replaced-here x.station st sts n.0 n.1))
refused_excused x r (st ∷ sts) now (inr f) (inr (inr (inl n))) = absurd (f.0 n.0)
refused_excused x r (st ∷ sts) now (inl m) (inr (inr (inl n))) =
    let low : st.after ≤ x.epoch = let q = noted_above x.station x.epoch sts (standing_after now st) n.1 in let w = last_above now.pointed st in omega arith in
    let h : ends x st ≡ false = elim (cases_Bool (ends x st)) [ inl y ↦ absurd (let q = (refused_ends x st r y).1 in omega arith) | inr y ↦ y ] in
    excused_on x st sts now.transmitting n.0 h (refused_excused x r sts (standing_after now st) m.3 n.1)
refused_excused x r (st ∷ sts) now (inr f) (inr (inr (inr n))) = excused_past x r st sts now.transmitting f.0 (refused_excused x r sts now f.1 n.1)
refused_excused x r (st ∷ sts) now (inl m) (inr (inr (inr n))) = absurd (n.0 m.0)

-- ---- ticks are in order

pub before_place : (x : Attempt) (sts : List Move) (j : ℕ) (st : Move) → IsAt sts j st → j < place x sts → ends x st ≡ false
before_place x [] j st a l = absurd a
before_place x (u ∷ sts) zero st a l = elim (cases_Bool (ends x u)) [ inl h ↦ absurd (let q = place-here x u sts h in omega arith) | inr h ↦ ap (ends x) (sym a) ∙ h ]
before_place x (u ∷ sts) (suc j) st a l = elim (cases_Bool (ends x u)) [ inl h ↦ absurd (let q = place-here x u sts h in omega arith) | inr h ↦ before_place x sts j st a (let q = place-next x u sts h in omega arith) ]

pub each_at : (P : Move → Type 0) (sts : List Move) (j : ℕ) (st : Move) → AllByRecursion P sts → IsAt sts j st → P st
each_at P [] j st all a = absurd a
each_at P (u ∷ sts) zero st all a = subst P a all.0
each_at P (u ∷ sts) (suc j) st all a = each_at P sts j st all.1 a

-- under which epochs a later step stands
under_lives : (s : ℕ) (sts : List Move) (now : Standing) (j : ℕ) (st : Move) → Follows s now sts → IsAt sts j st → st.station ≡ s → Lives s now st.before sts
under_lives s [] now j st f a h = absurd a
under_lives s (u ∷ sts) now zero st (inl m) a h = inl (sym m.1 ∙ ap (λ w. w.before) a)
under_lives s (u ∷ sts) now zero st (inr n) a h = absurd (n.0 (ap (λ w. w.station) a ∙ h))
under_lives s (u ∷ sts) now (suc j) st (inr n) a h = elim (under_lives s sts now j st n.1 a h) [ inl e ↦ inl e | inr b ↦ inr (inr b) ]
under_lives s (u ∷ sts) now (suc j) st (inl m) a h = elim (under_lives s sts (standing_after now u) j st m.3 a h) [ inl e ↦ inr (inl (m.0, e)) | inr b ↦ inr (inr b) ]

-- a tick of an attempt's station, under its epoch
pub record IsTick (x : Attempt) (sts : List Move) (j : ℕ) (st : Move) : Type 0 where
  pub at : IsAt sts j st
  pub station : st.station ≡ x.station
  pub under : st.before ≡ x.epoch
  pub shows : 0 < st.shown

pub tick_above : (x : Attempt) (sts : List Move) (now : Standing) → IsTaken x now sts → AllGrow sts → (j : ℕ) (st : Move) → IsTick x sts j st
    → (place x sts < j) ⊎ (place x sts ≡ j × st.after ≡ x.epoch) → x.number < st.shown
tick_above x [] now t g j st k o = absurd k.at
tick_above x (u ∷ sts) now t g zero st k (inl l) = absurd (omega arith)
tick_above x (u ∷ sts) now t g zero st k (inr q) = elim (cases_Bool (ends x u)) [
  | inr h ↦ absurd (let e = place-next x u sts h in let w = q.0 in omega arith)
  | inl h ↦ elim (subst (λ w. TakenEnd x w) k.at (taken_ends x u t.taken h)).over [ inl l ↦ l | inr n ↦ absurd (n q.1) ]
]
tick_above x (u ∷ sts) now t g (suc j) st k o = elim (cases_Bool (ends x u)) [
  | inl h ↦ here (taken_ends x u t.taken h) t.goes
  | inr h ↦ elim (onward x now u sts t) [
    | other n rest ↦ tick_above x sts now rest g.1 j st next (down h o)
    | own before rest ↦ tick_above x sts (standing_after now u) (rest h) g.1 j st next (down h o)
  ]
]
  where
    next : IsTick x sts j st
    next = record { at = k.at; station = k.station; under = k.under; shows = k.shows }

    here : TakenEnd x u → Follows x.station now (u ∷ sts) → x.number < st.shown
    here e (inr n) = absurd (n.0 e.here)
    here e (inl m) = elim e.over [
      | inl l ↦ let grown = each_at (Grows u) sts j st g.0 k.at (k.station ∙ sym e.here) (k.under ∙ sym e.under) k.shows in omega arith
      | inr n ↦ absurd (elim (under_lives x.station sts (standing_after now u) j st m.3 k.at k.station) [
        | inl q ↦ n (q ∙ k.under)
        | inr q ↦ elim (begun_above x.station st.before sts (standing_after now u) (let b = k.under in let some = t.some in omega arith) (last_above now.pointed u) m.3 q) [
          | inl w ↦ n (sym w ∙ k.under)
          | inr w ↦ (let v = e.under in let b = k.under in let low = t.low in let c = m.1 in
              elim (last_of-cases now.pointed u) [ inl c ↦ omega arith | inr c ↦ omega arith ])
        ]
      ])
    ]

    down : ends x u ≡ false → (place x (u ∷ sts) < suc j) ⊎ (place x (u ∷ sts) ≡ suc j × st.after ≡ x.epoch) → (place x sts < j) ⊎ (place x sts ≡ j × st.after ≡ x.epoch)
    down h (inl l) = inl (let e = place-next x u sts h in omega arith)
    down h (inr q) = inr (let e = place-next x u sts h in let w = q.0 in omega arith, q.1)
