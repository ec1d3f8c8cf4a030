-- The merged list is legal.
use Rattle.std.proofs.Common.{◌≡◌, ◌⊎◌, ℕ, zero, suc, ◌+◌, ◌<◌, ◌≤◌, max, Bool, true, false, not, cond, ◌&&◌, eqb, List, [], ◌∷◌, ◌++◌, map, filter, refl, sym, ap, ◌∙◌, subst, arith, inl, inr}
use Rattle.std.specs.List.{AllByRecursion}
use Rattle.std.specs.List.Sorted.{IsNonDecreasingBy}
use Rattle.std.proofs.Common.{length, get_or}
use Rattle.std.proofs.lemmas.Bool.{cond-true, cond-false, cases_Bool, cases_lt, cases_order, eqb-true, eq-eqb, ne_eqb, and_parts, not-true}
use Rattle.worker_races.specs.merge.Places.{Move}
use Rattle.worker_races.specs.merge.Places.{Attempt}
use Rattle.worker_races.specs.merge.Marks.{Mark}
use Rattle.worker_races.specs.merge.Marks.{Control, Claim}
use Rattle.worker_races.specs.merge.Places.{Standing, ends, place, standing_after, Follows}
use Rattle.worker_races.specs.merge.inside.Moments.{stands, Replaced, IsAt, Grows, AllGrow}
use Rattle.worker_races.specs.merge.Merged.{rank, sooner, numbered, merged, Before, IsFit, Differ, AllPairs, InLog}
use Rattle.worker_races.specs.merge.inside.Ordered.{is_control, now, next, settled, replaced, InOrder, AreInOrder, IsControl}
use Rattle.worker_races.proofs.weaving.Stable.{IsUp, IsUp-in_order, each-append, each-in_order, pairs-in_order, each_weaker, each-filter}
use Rattle.worker_races.proofs.weaving.PlaceLemmas.{stands-zero, taken_stands, taken_passed, taken_rises, refused_excused, Excused, before_place, tick_above, each_at, place-nil, place-here, place-next}
use Rattle.worker_races.proofs.weaving.Woven.{is-taken, log_in_order, woven_control, weak, le_then, rank_parts, rank_late}

unfoldable pub after : ℕ → List Move → List Move
after zero sts = sts
after (suc k) [] = []
after (suc k) (st ∷ sts) = after k sts

place_end : (x : Attempt) (sts : List Move) (k : ℕ) → after k sts ≡ [] → place x sts ≤ k
unfolding after
place_end x [] k e = let a = place-nil x in omega arith
place_end x (st ∷ sts) zero e = absurd (cc)
place_end x (st ∷ sts) (suc k) e = let ih = place_end x sts k e in elim (cases_Bool (ends x st)) [ inl h ↦ (let a = place-here x st sts h in omega arith) | inr h ↦ (let a = place-next x st sts h in omega arith) ]

after_cons : (sts : List Move) (k : ℕ) (u : Move) (us : List Move) → after k sts ≡ u ∷ us → (after (suc k) sts ≡ us) × IsAt sts k u
unfolding after
after_cons [] zero u us e = absurd (cc)
after_cons [] (suc k) u us e = absurd (cc)
after_cons (st ∷ sts) zero u us e = (cc, cc)
after_cons (st ∷ sts) (suc k) u us e = after_cons sts k u us e

stands_step : (s t : ℕ) (sts : List Move) (k : ℕ) (st : Move) → IsAt sts k st → stands s t sts (suc k) ≡ cond (eqb st.station s) st.after (stands s t sts k)
unfolding stands
stands_step s t [] k st a = absurd a
stands_step s t (u ∷ []) zero st a = ap (λ w. cond (eqb w.station s) w.after t) a
stands_step s t (u ∷ v ∷ sts) zero st a = ap (λ w. cond (eqb w.station s) w.after t) a
stands_step s t (u ∷ sts) (suc k) st a = stands_step s (cond (eqb u.station s) u.after t) sts k st a

replaced_after : (s : ℕ) (sts : List Move) (k : ℕ) → Replaced s sts k → Replaced s (after k sts) 0
unfolding after Replaced
replaced_after s [] k h = absurd h
replaced_after s (st ∷ sts) zero h = h
replaced_after s (st ∷ sts) (suc k) h = replaced_after s sts k h

replaced_from : (s : ℕ) (zs : List Mark) (k : ℕ) (us : List Move) → filter is_control zs ≡ numbered k us → Replaced s us 0 → replaced s zs
unfolding numbered Replaced replaced
replaced_from s [] k [] e h = absurd h
replaced_from s [] k (u ∷ us) e h = absurd (cc)
replaced_from s (Claim x ∷ zs) k us e h = replaced_from s zs k us e h
replaced_from s (Control n st ∷ zs) k [] e h = absurd h
replaced_from s (Control n st ∷ zs) k (u ∷ us) e (inl h) = let q : st ≡ u = cc in inl (ap (λ w. w.station) q ∙ h.0, ap (λ w. w.gap) q ∙ h.1)
replaced_from s (Control n st ∷ zs) k (u ∷ us) e (inr h) = let q : st ≡ u = cc in inr (λ r. h.0 (sym (ap (λ w. w.station) q) ∙ r), replaced_from s zs (suc k) us (cc) h.1)

-- ---- what bounds the next number
pub Counts : ℕ → ℕ → ℕ → Mark → Type 0
Counts s e p (Control n st) = st.station ≡ s → st.before ≡ e → st.shown ≤ p
Counts s e p (Claim x) = x.refused ≡ false → x.station ≡ s → x.epoch ≡ e → x.number < p

max_within : (a b p : ℕ) → a ≤ p → b ≤ p → max a b ≤ p
max_within a b p h k = omega arith

next_bound : (s e r p : ℕ) → r ≤ p → (past : List Mark) → AllByRecursion (Counts s e p) past → next s e r past ≤ p
unfolding next Counts
next_bound s e r p h [] all = h
next_bound s e r p h (Control n st ∷ past) all = go (eqb st.station s && eqb st.before e) refl (next_bound s e r p h past all.1)
  where
    go : (b : Bool) → (eqb st.station s && eqb st.before e) ≡ b → next s e r past ≤ p → cond b (max st.shown (next s e r past)) (next s e r past) ≤ p
    go true q ih = let a = and_parts _ _ q in max_within _ _ p (all.0 (eqb-true _ _ a.0) (eqb-true _ _ a.1)) ih
    go false q ih = ih
next_bound s e r p h (Claim x ∷ past) all = go (not x.refused && (eqb x.station s && eqb x.epoch e)) refl (next_bound s e r p h past all.1)
  where
    go : (b : Bool) → (not x.refused && (eqb x.station s && eqb x.epoch e)) ≡ b → next s e r past ≤ p → cond b (max (suc x.number) (next s e r past)) (next s e r past) ≤ p
    go true q ih = let a = and_parts _ _ q in let c = and_parts _ _ a.1 in max_within _ _ p (let w = all.0 (not-true _ a.0) (eqb-true _ _ c.0) (eqb-true _ _ c.1) in omega arith) ih
    go false q ih = ih

module _ (R : Before) (sts : List Move) (ctl : IsControl R sts) where
  pub IsGood : Mark → Type 0
  IsGood (Control n st) = IsAt sts n st
  IsGood (Claim x) = IsFit R sts x

  pub Apart : Mark → Mark → Type 0
  Apart (Control n st) z = Unit {0}
  Apart (Claim x) (Control n st) = Unit {0}
  Apart (Claim x) (Claim y) = Differ x y

  pub Pair : Mark → Mark → Type 0
  Pair y z = (sooner sts z y ≡ false) × Apart y z

  pub Behind : ℕ → Mark → Type 0
  Behind k (Control n st) = n < k
  Behind k (Claim x) = Unit {0}

  pub Ahead : ℕ → Mark → Type 0
  Ahead k (Control n st) = Unit {0}
  Ahead k (Claim x) = k ≤ place x sts

  record State (k : ℕ) (past zs : List Mark) : Type 0 where
    left : filter is_control zs ≡ numbered k (after k sts)
    present : (s : ℕ) → now s (R.standing s).transmitting past ≡ stands s (R.standing s).transmitting sts k
    behind : AllByRecursion (Behind k) past
    ahead : AllByRecursion (Ahead k) zs
    good_past : AllByRecursion IsGood past
    good : AllByRecursion IsGood zs
    across : AllByRecursion (λ y. AllByRecursion (Pair y) zs) past
    inner : AllPairs Pair zs
    down : AllPairs (λ a b. Pair b a) past

  -- a claim that comes next stands where control has come to
  place_now : (x : Attempt) (zs : List Mark) (k : ℕ) → filter is_control zs ≡ numbered k (after k sts) → AllByRecursion (Pair (Claim x)) zs → place x sts ≤ k
  unfolding numbered Pair
  place_now x zs k left all = go (after k sts) refl
    where
      go : (us : List Move) → after k sts ≡ us → place x sts ≤ k
      go [] e = place_end x sts k e
      go (u ∷ us) e = (le_then k (place x sts) _ (subst (AllByRecursion (Pair (Claim x))) (left ∙ ap (numbered k) e) (each-filter (Pair (Claim x)) is_control zs all)).0.0).0

  -- what an earlier event counts for a claim
  counts_for : (x : Attempt) (k : ℕ) → IsFit R sts x → x.refused ≡ false → k ≤ place x sts → (y : Mark) → IsGood y → Behind k y → Pair y (Claim x) → Counts x.station x.epoch x.number y
  unfolding IsGood Behind Pair Counts Apart
  counts_for x k fit r up (Control n st) good low pair = λ s e. (taken_passed x st r (before_place x sts n st good (omega arith)) s e).0
  counts_for x k fit r up (Claim y) good low pair = λ r' s e.
      elim (cases_order y.number x.number) [
        | inl q ↦ absurd (pair.1 r' r s e q)
        | inr w ↦ elim w [
          | inl l ↦ l
          | inr l ↦ absurd (let m : place x sts ≤ place y sts = taken_rises x y r r' s (sym e) (omega arith) sts in
              let q = (rank_parts (rank sts (Claim x)) (rank sts (Claim y)) pair.0).1 m refl (sym s) (sym e) (ap {B = ℕ} (λ q. cond q 1 0) (r ∙ sym r')) in omega arith)
        ]
      ]

  all_count : (x : Attempt) (k : ℕ) → IsFit R sts x → x.refused ≡ false → k ≤ place x sts → (past zs : List Mark) → AllByRecursion IsGood past → AllByRecursion (Behind k) past
      → AllByRecursion (λ y. AllByRecursion (Pair y) (Claim x ∷ zs)) past → AllByRecursion (Counts x.station x.epoch x.number) past
  all_count x k fit r up [] zs good low pairs = tt
  all_count x k fit r up (y ∷ past) zs good low pairs = (counts_for x k fit r up y good.0 low.0 pairs.0.0, all_count x k fit r up past zs good.1 low.1 pairs.1)

  -- what an earlier event counts for a tick
  grow_at : (ss : List Move) → AllGrow ss → (i j : ℕ) (a b : Move) → i < j → IsAt ss i a → IsAt ss j b → Grows a b
  grow_at [] g i j a b l p q = absurd p
  grow_at (u ∷ ss) g i zero a b l p q = absurd (omega arith)
  grow_at (u ∷ ss) g zero (suc j) a b l p q = subst (λ w. Grows w b) p (each_at (Grows u) ss j b g.0 q)
  grow_at (u ∷ ss) g (suc i) (suc j) a b l p q = grow_at ss g.1 i j a b (omega arith) p q

  -- claims that stand before the k-th step or at it, where it keeps the key
  ForTick : ℕ → Move → Mark → Type 0
  ForTick k st (Control n u) = Unit {0}
  ForTick k st (Claim x) = (place x sts < k) ⊎ (place x sts ≡ k × st.after ≡ st.before)

  tick_counts : (k : ℕ) (st : Move) → IsAt sts k st → 0 < st.shown → (y : Mark) → IsGood y → Behind k y → ForTick k st y → Counts st.station st.before st.shown y
  unfolding IsGood Behind Counts ForTick
  tick_counts k st a sh (Control n u) good low o = λ s e. grow_at sts ctl.grow n k u st low good a (sym s) (sym e) sh
  tick_counts k st a sh (Claim x) good low o = λ r s e.
      tick_above x sts (R.standing x.station) (is-taken R sts ctl x r good) ctl.grow k st (record { at = a; station = sym s; under = sym e; shows = sh })
      (elim o [ inl h ↦ inl h | inr h ↦ inr (h.0, h.1 ∙ sym e) ])

  tick_all : (k : ℕ) (st : Move) → IsAt sts k st → 0 < st.shown → (past : List Mark) → AllByRecursion IsGood past → AllByRecursion (Behind k) past → AllByRecursion (ForTick k st) past
      → AllByRecursion (Counts st.station st.before st.shown) past
  tick_all k st a sh [] good low o = tt
  tick_all k st a sh (y ∷ past) good low o = (tick_counts k st a sh y good.0 low.0 o.0, tick_all k st a sh past good.1 low.1 o.1)

  -- claims in the past stand at the next step at the latest
  for_tick : (k : ℕ) (st : Move) (zs : List Mark) → st.after ≡ st.before → (past : List Mark) → AllByRecursion (λ y. AllByRecursion (Pair y) (Control k st ∷ zs)) past → AllByRecursion (ForTick k st) past
  unfolding Pair ForTick
  for_tick k st zs e [] all = tt
  for_tick k st zs e (Control n u ∷ past) all = (tt, for_tick k st zs e past all.1)
  for_tick k st zs e (Claim x ∷ past) all =
      let w = (le_then k (place x sts) _ all.0.0.0).0 in
      (elim (cases_lt (place x sts) k) [ inl l ↦ inl l | inr l ↦ inr (omega arith, e) ], for_tick k st zs e past all.1)

  -- and what stands before an earlier step, before it
  before_step : (k : ℕ) (st : Move) (n : ℕ) (u : Move) → n < k → (past : List Mark) → AllByRecursion (λ b. Pair b (Control n u)) past → AllByRecursion (ForTick k st) past
  unfolding Pair ForTick
  before_step k st n u l [] all = tt
  before_step k st n u l (Control m v ∷ past) all = (tt, before_step k st n u l past all.1)
  before_step k st n u l (Claim x ∷ past) all = (inl (let w = (le_then n (place x sts) _ all.0.0).0 in omega arith), before_step k st n u l past all.1)

  settled_bound : (k : ℕ) (st : Move) → IsAt sts k st → 0 < st.shown → (past : List Mark) → AllByRecursion IsGood past → AllByRecursion (Behind k) past → AllPairs (λ a b. Pair b a) past
      → settled st.station st.before (R.next_of st.station st.before) (R.settled_of st.station st.before) past ≤ st.shown
  unfolding settled ForTick Behind IsGood
  settled_bound k st a sh [] good low down = each_at (λ st. 0 < st.shown → R.settled_of st.station st.before ≤ st.shown) sts k st ctl.first a sh
  settled_bound k st a sh (Claim x ∷ past) good low down = settled_bound k st a sh past good.1 low.1 down.1
  settled_bound k st a sh (Control n u ∷ past) good low down = go (eqb u.station st.station) refl (settled_bound k st a sh past good.1 low.1 down.1)
    where
      old : ℕ
      old = settled st.station st.before (R.next_of st.station st.before) (R.settled_of st.station st.before) past

      go : (b : Bool) → eqb u.station st.station ≡ b → old ≤ st.shown → cond b (next st.station st.before (R.next_of st.station st.before) (Control n u ∷ past)) old ≤ st.shown
      go false e ih = ih
      go true e ih =
          next_bound st.station st.before _ st.shown (ctl.later n k u st low.0 good.0 a (eqb-true _ _ e) sh) (Control n u ∷ past)
          (tick_all k st a sh (Control n u ∷ past) good low (tt, before_step k st n u low.0 past down.0))

  -- the heads of what stands across
  heads : (z : Mark) (zs past : List Mark) → AllByRecursion (λ y. AllByRecursion (Pair y) (z ∷ zs)) past → AllByRecursion (λ y. Pair y z) past
  heads z zs past all = each_weaker (λ y. AllByRecursion (Pair y) (z ∷ zs)) (λ y. Pair y z) (λ y h. h.0) past all

  tails : (z : Mark) (zs past : List Mark) → AllByRecursion (λ y. AllByRecursion (Pair y) (z ∷ zs)) past → AllByRecursion (λ y. AllByRecursion (Pair y) zs) past
  tails z zs past all = each_weaker (λ y. AllByRecursion (Pair y) (z ∷ zs)) (λ y. AllByRecursion (Pair y) zs) (λ y h. h.1) past all

  behind_more : (k : ℕ) (past : List Mark) → AllByRecursion (Behind k) past → AllByRecursion (Behind (suc k)) past
  unfolding Behind
  behind_more k [] all = tt
  behind_more k (Control n st ∷ past) all = (let h = all.0 in omega arith, behind_more k past all.1)
  behind_more k (Claim x ∷ past) all = (tt, behind_more k past all.1)

  ahead_more : (k : ℕ) (st : Move) (zs : List Mark) → AllByRecursion (Pair (Control k st)) zs → AllByRecursion (Ahead (suc k)) zs
  unfolding Pair Ahead Apart
  ahead_more k st [] all = tt
  ahead_more k st (Control n u ∷ zs) all = (tt, ahead_more k st zs all.1)
  ahead_more k st (Claim x ∷ zs) all = (let h = rank_late (rank sts (Claim x)) (rank sts (Control k st)) all.0.0 (omega arith) in omega arith, ahead_more k st zs all.1)

  now_step : (k : ℕ) (st : Move) (past : List Mark) → IsAt sts k st → ((s : ℕ) → now s (R.standing s).transmitting past ≡ stands s (R.standing s).transmitting sts k)
      → (s : ℕ) → now s (R.standing s).transmitting (Control k st ∷ past) ≡ stands s (R.standing s).transmitting sts (suc k)
  unfolding now
  now_step k st past a h s = ap (λ w. cond (eqb st.station s) st.after w) (h s) ∙ sym (stands_step s (R.standing s).transmitting sts k st a)

  -- ---- the law
  before_stands : (s : ℕ) (ss : List Move) (at : Standing) (n : ℕ) (st : Move) → Follows s at ss → IsAt ss n st → st.station ≡ s → st.before ≡ stands s at.transmitting ss n
  unfolding stands
  before_stands s [] at n st f a h = absurd a
  before_stands s (u ∷ ss) at zero st (inl m) a h = sym (ap (λ w. w.before) a) ∙ m.1
  before_stands s (u ∷ ss) at zero st (inr m) a h = absurd (m.0 (ap (λ w. w.station) a ∙ h))
  before_stands s (u ∷ ss) at (suc n) st (inl m) a h = before_stands s ss (standing_after at u) n st m.3 a h ∙ ap (λ v. stands s v ss n) (sym (cond-true (eqb u.station s) u.after at.transmitting (eq-eqb _ _ m.0)))
  before_stands s (u ∷ ss) at (suc n) st (inr m) a h = before_stands s ss at n st m.1 a h ∙ ap (λ v. stands s v ss n) (sym (cond-false (eqb u.station s) u.after at.transmitting (ne_eqb _ _ m.0)))

  control_at : (n : ℕ) (st : Move) (zs : List Mark) (k : ℕ) → Control n st ∷ filter is_control zs ≡ numbered k (after k sts) → (n ≡ k) × IsAt sts k st × (filter is_control zs ≡ numbered (suc k) (after (suc k) sts))
  unfolding numbered
  control_at n st zs k left = go (after k sts) refl
    where
      go : (us : List Move) → after k sts ≡ us → (n ≡ k) × IsAt sts k st × (filter is_control zs ≡ numbered (suc k) (after (suc k) sts))
      go [] e = let q = left ∙ ap (numbered k) e in absurd (cc)
      go (u ∷ us) e =
          let q : Control n st ∷ filter is_control zs ≡ Control k u ∷ numbered (suc k) us = left ∙ ap (numbered k) e in
          let c = after_cons sts k u us e in
          let same : u ≡ st = cc in
          let rest : filter is_control zs ≡ numbered (suc k) us = cc in
          (cc, subst (IsAt sts k) same c.1, rest ∙ ap (numbered (suc k)) (sym c.0))

  claim_in_order : (x : Attempt) (zs past : List Mark) (k : ℕ) → State k past (Claim x ∷ zs) → InOrder R past (Claim x) zs
  unfolding Ahead IsGood Excused
  claim_in_order x zs past k S =
      let low = place_now x zs k S.left S.inner.0 in
      let up : k ≤ place x sts = S.ahead.0 in
      let here : place x sts ≡ k = omega arith in
      let fit : IsFit R sts x = S.good.0 in
      let stood = ap (stands x.station (R.standing x.station).transmitting sts) (sym here) in (
        λ r. (
          S.present x.station ∙ (stood ∙ taken_stands x r sts (R.standing x.station) (ctl.follows x.station) (fit.lives r).1),
          next_bound x.station x.epoch _ x.number (fit.above r) past (all_count x k fit r up past zs S.good_past S.behind S.across),
        ),
        λ r. elim (refused_excused x r sts (R.standing x.station) (ctl.follows x.station) (fit.noted r).1) [
          | inl h ↦ inl (S.present x.station ∙ (stood ∙ h))
          | inr h ↦ inr (replaced_from x.station zs k (after k sts) S.left (replaced_after x.station sts k (subst (Replaced x.station sts) here h)))
        ],
      )

  claim_on : (x : Attempt) (zs past : List Mark) (k : ℕ) → State k past (Claim x ∷ zs) → State k (Claim x ∷ past) zs
  unfolding Behind now
  claim_on x zs past k S = record {
    left = S.left;
    present = S.present;
    behind = (tt, S.behind);
    ahead = S.ahead.1;
    good_past = (S.good.0, S.good_past);
    good = S.good.1;
    across = (S.inner.0, tails (Claim x) zs past S.across);
    inner = S.inner.1;
    down = (heads (Claim x) zs past S.across, S.down);
  }

  control_in_order : (n : ℕ) (st : Move) (zs past : List Mark) → State n past (Control n st ∷ zs) → InOrder R past (Control n st) zs
  unfolding IsGood
  control_in_order n st zs past S =
      let a : IsAt sts n st = S.good.0 in
      let keeps = each_at (λ st. 0 < st.shown → st.after ≡ st.before → R.next_of st.station st.before ≤ st.shown) sts n st ctl.keeps a in (
        before_stands st.station sts (R.standing st.station) n st (ctl.follows st.station) a refl ∙ sym (S.present st.station),
        λ sh e. next_bound st.station st.before _ st.shown (keeps sh e) past (tick_all n st a sh past S.good_past S.behind (for_tick n st zs e past S.across)),
        λ sh e. settled_bound n st a sh past S.good_past S.behind S.down,
      )

  control_on : (n : ℕ) (st : Move) (zs past : List Mark) → State n past (Control n st ∷ zs) → State (suc n) (Control n st ∷ past) zs
  unfolding Behind IsGood
  control_on n st zs past S = record {
    left = (control_at n st zs n S.left).2;
    present = now_step n st past S.good.0 S.present;
    behind = (omega arith, behind_more n past S.behind);
    ahead = ahead_more n st zs S.inner.0;
    good_past = (S.good.0, S.good_past);
    good = S.good.1;
    across = (S.inner.0, tails (Control n st) zs past S.across);
    inner = S.inner.1;
    down = (heads (Control n st) zs past S.across, S.down);
  }

  legal_from : (zs past : List Mark) (k : ℕ) → State k past zs → AreInOrder R past zs
  legal_from [] past k S = tt
  legal_from (Claim x ∷ zs) past k S = (claim_in_order x zs past k S, legal_from zs (Claim x ∷ past) k (claim_on x zs past k S))
  legal_from (Control n st ∷ zs) past k S =
      let e = (control_at n st zs k S.left).0 in
      let S' = subst (λ q. State q past (Control n st ∷ zs)) (sym e) S in
      (control_in_order n st zs past S', legal_from zs (Control n st ∷ past) (suc n) (control_on n st zs past S'))

  turned : (y z : Mark) → Apart y z → Apart z y
  unfolding Apart
  turned (Control n st) (Control m u) h = tt
  turned (Control n st) (Claim x) h = tt
  turned (Claim x) (Control n st) h = tt
  turned (Claim x) (Claim y) h = λ r r' s e q. h r' r (sym s) (sym e) (sym q)

  both : (y : Mark) (zs : List Mark) → AllByRecursion (λ z. sooner sts z y ≡ false) zs → AllByRecursion (Apart y) zs → AllByRecursion (Pair y) zs
  unfolding Pair
  both y [] up apart = tt
  both y (z ∷ zs) up apart = ((up.0, apart.0), both y zs up.1 apart.1)

  pairs_of : (zs : List Mark) → IsUp (sooner sts) zs → AllPairs Apart zs → AllPairs Pair zs
  pairs_of [] up apart = tt
  pairs_of (z ∷ zs) up apart = (both z zs up.0 apart.0, pairs_of zs up.1 apart.1)

  apart_numbered : (n : ℕ) (ss : List Move) (zs : List Mark) → AllPairs Apart zs → AllPairs Apart (numbered n ss ++ zs)
  unfolding numbered Apart
  apart_numbered n [] zs h = h
  apart_numbered n (st ∷ ss) zs h = (free (Control n st) (λ z. tt) (numbered (suc n) ss ++ zs), apart_numbered (suc n) ss zs h)
    where
      free : (y : Mark) → ((z : Mark) → Apart (Control n st) z) → (zs : List Mark) → AllByRecursion (Apart (Control n st)) zs
      free y f [] = tt
      free y f (z ∷ zs) = (f z, free y f zs)

  apart_each : (x : Attempt) (es : List Attempt) → AllByRecursion (Differ x) es → AllByRecursion (Apart (Claim x)) (map Claim es)
  unfolding Apart
  apart_each x [] h = tt
  apart_each x (y ∷ es) h = (h.0, apart_each x es h.1)

  apart_claims : (es : List Attempt) → AllPairs Differ es → AllPairs Apart (map Claim es)
  apart_claims [] h = tt
  apart_claims (x ∷ es) h = (apart_each x es h.0, apart_claims es h.1)

  good_numbered : (n : ℕ) (ss : List Move) → ((j : ℕ) (st : Move) → IsAt ss j st → IsAt sts (j + n) st) → AllByRecursion IsGood (numbered n ss)
  unfolding numbered IsGood
  good_numbered n [] f = tt
  good_numbered n (st ∷ ss) f = (subst (λ m. IsAt sts m st) (zero_left n) (f 0 st refl), good_numbered (suc n) ss (λ j u a. subst (λ m. IsAt sts m u) (one_on j n) (f (suc j) u a)))
    where
      zero_left : (n : ℕ) → 0 + n ≡ n
      zero_left n = omega arith

      one_on : (j n : ℕ) → suc j + n ≡ j + suc n
      one_on j n = omega arith

  good_claims : (es : List Attempt) → AllByRecursion (IsFit R sts) es → AllByRecursion IsGood (map Claim es)
  unfolding IsGood
  good_claims [] h = tt
  good_claims (x ∷ es) h = (h.0, good_claims es h.1)

  ahead_all : (zs : List Mark) → AllByRecursion (Ahead 0) zs
  unfolding Ahead
  ahead_all [] = tt
  ahead_all (Control n st ∷ zs) = (tt, ahead_all zs)
  ahead_all (Claim x ∷ zs) = (omega arith, ahead_all zs)

  -- The merged list is legal after what was before.
  pub legal : (es : List Attempt) → AllByRecursion (IsFit R sts) es → AllPairs Differ es → AreInOrder R [] (merged sts es)
  unfolding now after
  legal es fit differ = legal_from (merged sts es) [] 0 (record {
    left = woven_control R sts ctl es;
    present = λ s. sym (stands-zero s (R.standing s).transmitting sts);
    behind = tt;
    ahead = ahead_all _;
    good_past = tt;
    good = each-in_order (sooner sts) IsGood _ (each-append IsGood _ _ (good_numbered 0 sts (λ j st a. subst (λ m. IsAt sts m st) (plus_zero j) a)) (good_claims es fit));
    across = tt;
    inner = pairs_of _ (IsUp-in_order (sooner sts) (weak sts) _) (pairs-in_order (sooner sts) Apart turned _ (apart_numbered 0 sts _ (apart_claims es differ)));
    down = tt;
  })
    where
      plus_zero : (j : ℕ) → j ≡ j + 0
      plus_zero j = omega arith

  -- Each later claim has at least the next number: so what nobody before claimed below it, nobody claims at all.
  pub AheadOf : List Mark → Mark → Type 0
  AheadOf past (Control n st) = Unit {0}
  AheadOf past (Claim x) = x.refused ≡ false → next x.station x.epoch (R.next_of x.station x.epoch) past ≤ x.number

  numbers_ahead : (zs past : List Mark) (k : ℕ) → AllByRecursion IsGood past → AllByRecursion (Behind k) past → AllByRecursion IsGood zs → AllByRecursion (Ahead k) zs
      → AllByRecursion (λ y. AllByRecursion (Pair y) zs) past → AllByRecursion (AheadOf past) zs
  unfolding IsGood Ahead AheadOf
  numbers_ahead [] past k good low fits ups across = tt
  numbers_ahead (Control n st ∷ zs) past k good low fits ups across = (tt, numbers_ahead zs past k good low fits.1 ups.1 (tails (Control n st) zs past across))
  numbers_ahead (Claim x ∷ zs) past k good low fits ups across = (
    λ r. next_bound x.station x.epoch _ x.number (fits.0.above r) past (all_count x k fits.0 r ups.0 past zs good low across),
    numbers_ahead zs past k good low fits.1 ups.1 (tails (Claim x) zs past across),
  )

  each_place : (x : Attempt) (xs : List Attempt) → IsFit R sts x → AllByRecursion (InLog x) xs → (j : ℕ) (d : Attempt) → j < length xs → place x sts ≤ place (get_or xs j d) sts
  each_place x [] f all j d h = absurd (omega arith)
  each_place x (y ∷ xs) f all zero d h = (rank_parts (rank sts (Claim y)) (rank sts (Claim x)) (log_in_order R sts ctl x y f all.0)).0
  each_place x (y ∷ xs) f all (suc j) d h = each_place x xs f all.1 j d (omega arith)

  -- what the sweep along a log asks
  pub log_rises : (xs : List Attempt) → AllByRecursion (IsFit R sts) xs → AllPairs InLog xs → IsNonDecreasingBy (λ x. place x sts) xs
  log_rises [] fit up = λ i j d le h. absurd (omega arith)
  log_rises (x ∷ xs) fit up = λ i j d le h. go (log_rises xs fit.1 up.1) i j d le h
    where
      refl_le : (n : ℕ) → n ≤ n
      refl_le n = omega arith

      go : IsNonDecreasingBy (λ x. place x sts) xs → (i j : ℕ) (d : Attempt) → i ≤ j → j < length (x ∷ xs) → place (get_or (x ∷ xs) i d) sts ≤ place (get_or (x ∷ xs) j d) sts
      go ih zero zero d le h = refl_le (place x sts)
      go ih zero (suc j) d le h = each_place x xs fit.0 up.0 j d (omega arith)
      go ih (suc i) zero d le h = absurd (omega arith)
      go ih (suc i) (suc j) d le h = ih i j d (omega arith) (omega arith)
