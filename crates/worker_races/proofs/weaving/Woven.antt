-- The merged list is woven.
use Rattle.std.proofs.Common.{◌≡◌, ◌⊎◌, ℕ, suc, ◌<◌, ◌≤◌, Bool, true, false, cond, eqb, List, [], ◌∷◌, ◌++◌, map, filter, refl, sym, ap, ◌∙◌, subst, arith, inl, inr, true≢false, nat_cmp, is_lt, Ordering, Less, Equal, Greater, append-nil}
use Rattle.std.specs.Ordering.{ordering_then}
use Rattle.std.specs.List.{AllByRecursion}
use Rattle.std.specs.Cmp.{IsStrictWeakOrder}
use Rattle.std.proofs.lemmas.List.Sorted.{ranks_by}
use Rattle.std.proofs.lemmas.List.Elements.{filter-append}
use Rattle.std.proofs.lemmas.Bool.{cases_lt, cases_eq, cases_order}
use Rattle.std.proofs.lemmas.Bool.Decides.{nat_tests}
use Rattle.worker_races.specs.declared.merge.rank.Rank.{Rank}
use Rattle.worker_races.specs.merge.Places.{Move}
use Rattle.worker_races.specs.merge.Places.{Attempt}
use Rattle.worker_races.specs.merge.Marks.{Mark}
use Rattle.worker_races.specs.merge.Marks.{Control, Claim}
use Rattle.worker_races.specs.merge.Ranks.{rank_cmp}
use Rattle.worker_races.specs.merge.Merged.{rank, sooner, numbered, merged, Before, IsFit, InLog, AllPairs}
use Rattle.worker_races.specs.merge.inside.Ordered.{is_control, is_of_log, IsControl}
use Rattle.worker_races.proofs.weaving.Stable.{IsUp, part_kept, IsUp-in_order, stable-in_order, filter_none}
use Rattle.worker_races.proofs.weaving.Order.{rank_total}
use Rattle.worker_races.proofs.weaving.PlaceLemmas.{IsTaken, taken_taken, taken_refused, refused_taken, refused_refused, taken_rises}

-- one part of a lexicographic order
pub then_le : (m n : ℕ) (o : Ordering) → n ≤ m → (m ≡ n → is_lt o ≡ false) → is_lt (ordering_then (nat_cmp m n) o) ≡ false
then_le m n o le h = go (nat_cmp m n) refl
  where
    go : (q : Ordering) → nat_cmp m n ≡ q → is_lt (ordering_then q o) ≡ false
    go Less e = absurd (grind (arith, nat_tests))
    go Equal e = h (grind (arith, nat_tests))
    go Greater e = refl

pub le_then : (m n : ℕ) (o : Ordering) → is_lt (ordering_then (nat_cmp m n) o) ≡ false → (n ≤ m) × (m ≡ n → is_lt o ≡ false)
le_then m n o h = go (nat_cmp m n) refl h
  where
    go : (q : Ordering) → nat_cmp m n ≡ q → is_lt (ordering_then q o) ≡ false → (n ≤ m) × (m ≡ n → is_lt o ≡ false)
    go Less e h = absurd (true≢false h)
    go Equal e h = (grind (arith, nat_tests), λ _. h)
    go Greater e h = (grind (arith, nat_tests), λ s. absurd (grind (arith, nat_tests)))

pub weak : (sts : List Move) → IsStrictWeakOrder (sooner sts)
weak sts = ranks_by rank_total (rank sts)

-- a rank that is not below another
pub rank_le : (a b : Rank) → b.place ≤ a.place → b.late ≡ a.late → b.station ≡ a.station
    → (b.epoch < a.epoch) ⊎ (b.epoch ≡ a.epoch × ((b.refused < a.refused) ⊎ (b.refused ≡ a.refused × b.number ≤ a.number))) → b.log ≤ a.log → is_lt (rank_cmp a b) ≡ false
rank_le a b p l s e g =
    then_le a.place b.place _ p (λ _. then_le a.late b.late _ (omega arith) (λ _. then_le a.station b.station _ (omega arith) (λ _. under e)))
  where
    last : is_lt (nat_cmp a.log b.log) ≡ false
    last = grind (arith, nat_tests)

    deep : (b.refused < a.refused) ⊎ (b.refused ≡ a.refused × b.number ≤ a.number) → is_lt (ordering_then (nat_cmp a.refused b.refused) (ordering_then (nat_cmp a.number b.number) (nat_cmp a.log b.log))) ≡ false
    deep (inl k) = then_le a.refused b.refused _ (omega arith) (λ (q : a.refused ≡ b.refused). absurd (omega arith))
    deep (inr k) = then_le a.refused b.refused _ (omega arith) (λ _. then_le a.number b.number _ (omega arith) (λ _. last))

    under : (b.epoch < a.epoch) ⊎ (b.epoch ≡ a.epoch × ((b.refused < a.refused) ⊎ (b.refused ≡ a.refused × b.number ≤ a.number)))
        → is_lt (ordering_then (nat_cmp a.epoch b.epoch) (ordering_then (nat_cmp a.refused b.refused) (ordering_then (nat_cmp a.number b.number) (nat_cmp a.log b.log)))) ≡ false
    under (inl k) = then_le a.epoch b.epoch _ (omega arith) (λ (q : a.epoch ≡ b.epoch). absurd (omega arith))
    under (inr k) = then_le a.epoch b.epoch _ (omega arith) (λ _. deep k.1)

-- what it says of the parts
pub rank_parts : (a b : Rank) → is_lt (rank_cmp a b) ≡ false
    → (b.place ≤ a.place) × (a.place ≤ b.place → a.late ≡ b.late → a.station ≡ b.station → a.epoch ≡ b.epoch → a.refused ≡ b.refused → b.number ≤ a.number)
rank_parts a b h =
    let p = le_then a.place b.place _ h in
    (p.0, λ up l s e r. (le_then a.number b.number _ ((le_then a.refused b.refused _ ((le_then a.epoch b.epoch _ ((le_then a.station b.station _ ((le_then a.late b.late _ (p.1 (same up p.0))).1 l)).1 s)).1 e)).1 r)).0)
  where
    same : a.place ≤ b.place → b.place ≤ a.place → a.place ≡ b.place
    same u v = omega arith

pub rank_late : (a b : Rank) → is_lt (rank_cmp a b) ≡ false → a.late < b.late → b.place < a.place
rank_late a b h l =
    let p = le_then a.place b.place _ h in
    elim (cases_eq a.place b.place) [ inl e ↦ absurd (let q = (le_then a.late b.late _ (p.1 e)).0 in omega arith) | inr n ↦ (let w = p.0 in elim (cases_order a.place b.place) [ inl e ↦ absurd (n e) | inr o ↦ elim o [ inl q ↦ absurd (omega arith) | inr q ↦ q ] ]) ]

module _ (R : Before) (sts : List Move) (ctl : IsControl R sts) where
  flag : (x : Attempt) (b : Bool) → x.refused ≡ b → ◌≡◌ {A = ℕ} (cond x.refused 1 0) (cond b 1 0)
  flag x b h = ap {B = ℕ} (λ q. cond q 1 0) h

  -- an attempt that fits, and took a number
  pub is-taken : (x : Attempt) → x.refused ≡ false → IsFit R sts x → IsTaken x (R.standing x.station) sts
  is-taken x taken fits = let lives = fits.lives taken in record {
    taken = taken;
    some = lives.0;
    low = ctl.pointed x.station;
    goes = ctl.follows x.station;
    lives = lives.1;
  }

  -- along one log ranks never fall
  pub log_in_order : (x y : Attempt) → IsFit R sts x → InLog x y → sooner sts (Claim y) (Claim x) ≡ false
  log_in_order x y fx h = go x.refused y.refused refl refl
    where
      go : (b d : Bool) → x.refused ≡ b → y.refused ≡ d → sooner sts (Claim y) (Claim x) ≡ false
      go false false e f =
          let s = h.station in let g = h.log in let m = flag x false e in let n = flag y false f in
          elim (h.taken_taken e f) [
            | inl k ↦ rank_le (rank sts (Claim y)) (rank sts (Claim x)) (taken_taken x y f s k sts (R.standing x.station) (is-taken x e fx)) refl (sym s) (inl k) (omega arith)
            | inr k ↦ rank_le (rank sts (Claim y)) (rank sts (Claim x)) (taken_rises x y e f s k.0 (let q = k.1 in omega arith) sts) refl (sym s) (inr (k.0, inr (m ∙ sym n, (let q = k.1 in omega arith)))) (omega arith)
          ]
      go false true e f =
          let s = h.station in let g = h.log in let m = flag x false e in let n = flag y true f in let k = h.taken_refused e f in
          rank_le (rank sts (Claim y)) (rank sts (Claim x)) (taken_refused x y f s k sts (R.standing x.station) (is-taken x e fx)) refl (sym s)
          (elim (cases_lt x.epoch y.epoch) [ inl l ↦ inl l | inr l ↦ inr (omega arith, inl (omega arith)) ]) (omega arith)
      go true false e f =
          let note = fx.noted e in let s = h.station in let g = h.log in let k = h.refused_taken e f in let low = ctl.pointed x.station in let up = note.0 in
          rank_le (rank sts (Claim y)) (rank sts (Claim x)) (refused_taken x y e f s k sts (R.standing x.station) (omega arith) (ctl.follows x.station)) refl (sym s) (inl k) (omega arith)
      go true true e f =
          let s = h.station in let g = h.log in let m = flag x true e in let n = flag y true f in let k = h.refused_refused e f in let l = k.0 in let q = k.1 in
          rank_le (rank sts (Claim y)) (rank sts (Claim x)) (refused_refused x y e f s l sts) refl (sym s)
          (elim (cases_lt x.epoch y.epoch) [ inl l ↦ inl l | inr l ↦ inr (omega arith, inr (m ∙ sym n, omega arith)) ]) (omega arith)

  each_claim : (x : Attempt) (xs : List Attempt) → IsFit R sts x → AllByRecursion (InLog x) xs → AllByRecursion (λ y. sooner sts y (Claim x) ≡ false) (map Claim xs)
  each_claim x [] f all = tt
  each_claim x (y ∷ xs) f all = (log_in_order x y f all.0, each_claim x xs f all.1)

  pub log_up : (xs : List Attempt) → AllByRecursion (IsFit R sts) xs → AllPairs InLog xs → IsUp (sooner sts) (map Claim xs)
  log_up [] fit up = tt
  log_up (x ∷ xs) fit up = (each_claim x xs fit.0 up.0, log_up xs fit.1 up.1)

  each_numbered : (P : Mark → Type 0) → ((n : ℕ) (st : Move) → P (Control n st)) → (n : ℕ) (ss : List Move) → AllByRecursion P (numbered n ss)
  unfolding numbered
  each_numbered P f n [] = tt
  each_numbered P f n (st ∷ ss) = (f n st, each_numbered P f (suc n) ss)

  each_above : (m : ℕ) (st : Move) (n : ℕ) (ss : List Move) → m < n → AllByRecursion (λ y. sooner sts y (Control m st) ≡ false) (numbered n ss)
  unfolding numbered
  each_above m st n [] h = tt
  each_above m st n (u ∷ ss) h = (then_le n m _ (omega arith) (λ (q : n ≡ m). absurd (omega arith)), each_above m st (suc n) ss (omega arith))

  numbered_up : (n : ℕ) (ss : List Move) → IsUp (sooner sts) (numbered n ss)
  unfolding numbered
  numbered_up n [] = tt
  numbered_up n (st ∷ ss) = (each_above n st (suc n) ss (omega arith), numbered_up (suc n) ss)

  kept_all : (p : Mark → Bool) (xs : List Mark) → AllByRecursion (λ x. p x ≡ true) xs → filter p xs ≡ xs
  kept_all p [] all = refl
  kept_all p (x ∷ xs) all = rw (all.0, kept_all p xs all.1) refl

  each_mapped : (P : Mark → Type 0) → ((x : Attempt) → P (Claim x)) → (xs : List Attempt) → AllByRecursion P (map Claim xs)
  each_mapped P f [] = tt
  each_mapped P f (x ∷ xs) = (f x, each_mapped P f xs)

  filter-claims : (u : ℕ) (xs : List Attempt) → filter (is_of_log u) (map Claim xs) ≡ map Claim (filter (λ x. eqb x.log u) xs)
  filter-claims u [] = refl
  filter-claims u (x ∷ xs) = elim (eqb x.log u) as (λ b. cond b (Claim x ∷ filter (is_of_log u) (map Claim xs)) (filter (is_of_log u) (map Claim xs)) ≡ map Claim (cond b (x ∷ filter (λ x. eqb x.log u) xs) (filter (λ x. eqb x.log u) xs)))
      [ true ↦ ap (λ l. Claim x ∷ l) (filter-claims u xs) | false ↦ filter-claims u xs ]

  controls_of : (es : List Attempt) → filter is_control (numbered 0 sts ++ map Claim es) ≡ numbered 0 sts
  controls_of es = filter-append is_control (numbered 0 sts) (map Claim es)
      ∙ (ap (λ l. l ++ filter is_control (map Claim es)) (kept_all is_control _ (each_numbered _ (λ n st. refl) 0 sts))
      ∙ (ap (λ l. numbered 0 sts ++ l) (filter_none is_control _ (each_mapped _ (λ x. refl) es)) ∙ append-nil _))

  entries_of : (u : ℕ) (es : List Attempt) → filter (is_of_log u) (numbered 0 sts ++ map Claim es) ≡ map Claim (filter (λ x. eqb x.log u) es)
  entries_of u es = filter-append (is_of_log u) (numbered 0 sts) (map Claim es)
      ∙ (ap (λ l. l ++ filter (is_of_log u) (map Claim es)) (filter_none (is_of_log u) _ (each_numbered _ (λ n st. refl) 0 sts)) ∙ filter-claims u es)

  -- Control keeps its order.
  pub woven_control : (es : List Attempt) → filter is_control (merged sts es) ≡ numbered 0 sts
  woven_control es =
      part_kept (sooner sts) (weak sts) is_control _ _ (IsUp-in_order (sooner sts) (weak sts) _) (stable-in_order (sooner sts) (weak sts) _) (subst (IsUp (sooner sts)) (sym (controls_of es)) (numbered_up 0 sts))
      ∙ controls_of es

  -- Each log keeps its order.
  pub woven_log : (u : ℕ) (es : List Attempt) → AllByRecursion (IsFit R sts) (filter (λ x. eqb x.log u) es) → AllPairs InLog (filter (λ x. eqb x.log u) es)
      → filter (is_of_log u) (merged sts es) ≡ map Claim (filter (λ x. eqb x.log u) es)
  woven_log u es fit up =
      part_kept (sooner sts) (weak sts) (is_of_log u) _ _ (IsUp-in_order (sooner sts) (weak sts) _) (stable-in_order (sooner sts) (weak sts) _) (subst (IsUp (sooner sts)) (sym (entries_of u es)) (log_up _ fit up))
      ∙ entries_of u es
