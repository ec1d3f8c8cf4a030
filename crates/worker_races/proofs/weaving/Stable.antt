-- A stable sort has one answer, and it keeps the order of each part of the list that was in order.
use Rattle.std.proofs.Common.{◌≡◌, Bool, true, false, not, cond, ◌&&◌, List, [], ◌∷◌, ◌++◌, filter, refl, sym, ap, ◌∙◌, arith, inl, inr, true≢false}
use Rattle.std.specs.List.{AllByRecursion}
use Rattle.std.specs.List.Sorted.{ties, IsStableBy, IsSortedBy}
use Rattle.std.proofs.Common.{suc, add-one}
use Rattle.std.proofs.lemmas.List.Elements.{recursion_from_All}
use Rattle.std.proofs.lemmas.List.Sorted.{sorted_far}
use Rattle.worker_races.specs.merge.Ranks.{inserted, in_order}
use Rattle.worker_races.specs.merge.Merged.{AllPairs}
use Rattle.std.specs.Cmp.{IsStrictWeakOrder}
use Rattle.std.proofs.lemmas.Bool.{cond-true, cond-false, cases_Bool, and_parts, not-true, and_from}

pub filter-kept : {X : Type 0} (p : X → Bool) (y : X) (ys : List X) → p y ≡ true → filter p (y ∷ ys) ≡ y ∷ filter p ys
filter-kept p y ys h = cond-true _ _ _ h

pub filter-dropped : {X : Type 0} (p : X → Bool) (y : X) (ys : List X) → p y ≡ false → filter p (y ∷ ys) ≡ filter p ys
filter-dropped p y ys h = cond-false _ _ _ h

pub filter_none : {X : Type 0} (p : X → Bool) (xs : List X) → AllByRecursion (λ x. p x ≡ false) xs → filter p xs ≡ []
filter_none p [] all = refl
filter_none p (x ∷ xs) all = filter-dropped p x xs all.0 ∙ filter_none p xs all.1

pub each_weaker : {X : Type 0} (P Q : X → Type 0) → ((x : X) → P x → Q x) → (xs : List X) → AllByRecursion P xs → AllByRecursion Q xs
each_weaker P Q f [] all = tt
each_weaker P Q f (x ∷ xs) all = (f x all.0, each_weaker P Q f xs all.1)

pub each-append : {X : Type 0} (P : X → Type 0) (xs ys : List X) → AllByRecursion P xs → AllByRecursion P ys → AllByRecursion P (xs ++ ys)
each-append P [] ys h k = k
each-append P (x ∷ xs) ys h k = (h.0, each-append P xs ys h.1 k)

pub each-filter : {X : Type 0} (P : X → Type 0) (p : X → Bool) (xs : List X) → AllByRecursion P xs → AllByRecursion P (filter p xs)
each-filter P p [] all = tt
each-filter P p (x ∷ xs) all = elim (p x) as (λ b. AllByRecursion P (cond b (x ∷ filter p xs) (filter p xs))) [ true ↦ (all.0, each-filter P p xs all.1) | false ↦ each-filter P p xs all.1 ]

pub filter-comm : {X : Type 0} (p q : X → Bool) (xs : List X) → filter p (filter q xs) ≡ filter q (filter p xs)
filter-comm p q [] = refl
filter-comm p q (x ∷ xs) = go (p x) (q x) refl refl (filter-comm p q xs)
  where
    go : (a b : Bool) → p x ≡ a → q x ≡ b → filter p (filter q xs) ≡ filter q (filter p xs) → filter p (filter q (x ∷ xs)) ≡ filter q (filter p (x ∷ xs))
    go true true e f ih = let a = filter-kept q x xs f in let b = filter-kept p x (filter q xs) e in let c = filter-kept p x xs e in let d = filter-kept q x (filter p xs) f in cc
    go true false e f ih = let a = filter-dropped q x xs f in let c = filter-kept p x xs e in let d = filter-dropped q x (filter p xs) f in cc
    go false true e f ih = let a = filter-kept q x xs f in let b = filter-dropped p x (filter q xs) e in let c = filter-dropped p x xs e in cc
    go false false e f ih = let a = filter-dropped q x xs f in let c = filter-dropped p x xs e in cc

module _ {X : Type 0} (lt : X → X → Bool) where
  -- no element is above one that comes after it
  abbrev pub IsUp : List X → Type 0
  IsUp [] = Unit {0}
  IsUp (x ∷ xs) = AllByRecursion (λ y. lt y x ≡ false) xs × IsUp xs

  pub IsUp-filter : (p : X → Bool) (xs : List X) → IsUp xs → IsUp (filter p xs)
  IsUp-filter p [] up = tt
  IsUp-filter p (x ∷ xs) up = elim (p x) as (λ b. IsUp (cond b (x ∷ filter p xs) (filter p xs))) [ true ↦ (each-filter _ p xs up.0, IsUp-filter p xs up.1) | false ↦ IsUp-filter p xs up.1 ]

  module _ (o : IsStrictWeakOrder lt) where
    tie_itself : (x : X) → ties lt x x ≡ true
    tie_itself x = let e : lt x x ≡ false = go (lt x x) refl in and_from _ _ (ap not e) (ap not e)
      where
        go : (b : Bool) → lt x x ≡ b → lt x x ≡ false
        go true e = o.one_way x x e
        go false e = e

    -- what is below the head of a list in order ties with none of it
    no_tie : (y z : X) → lt y z ≡ true → (w : X) → lt w z ≡ false → ties lt y w ≡ false
    no_tie y z h w k = go (lt y w) refl
      where
        go : (b : Bool) → lt y w ≡ b → ties lt y w ≡ false
        go true e = ap (λ b. not b && not (lt w y)) e
        go false e = absurd (true≢false (sym h ∙ o.chain y w z e k))

    not_below : (y z : X) (ys zs : List X) → IsUp (z ∷ zs) → filter (ties lt y) (y ∷ ys) ≡ filter (ties lt y) (z ∷ zs) → lt y z ≡ false
    not_below y z ys zs up same = go (lt y z) refl
      where
        go : (b : Bool) → lt y z ≡ b → lt y z ≡ false
        go false e = e
        go true e =
            let self : lt z z ≡ false = not-true _ (and_parts _ _ (tie_itself z)).0 in
            let none : filter (ties lt y) (z ∷ zs) ≡ [] = filter_none (ties lt y) (z ∷ zs) (no_tie y z e z self, each_weaker _ _ (no_tie y z e) zs up.0) in
            let kept = filter-kept (ties lt y) y ys (tie_itself y) in
            absurd (cc)

    same_tail : (y : X) (ys zs : List X) (p : X → Bool) → filter p (y ∷ ys) ≡ filter p (y ∷ zs) → filter p ys ≡ filter p zs
    same_tail y ys zs p same = go (p y) refl
      where
        go : (b : Bool) → p y ≡ b → filter p ys ≡ filter p zs
        go true e = let a = filter-kept p y ys e in let b = filter-kept p y zs e in cc
        go false e = let a = filter-dropped p y ys e in let b = filter-dropped p y zs e in cc

    pub up_unique : (ys zs : List X) → IsUp ys → IsUp zs → ((x : X) → filter (ties lt x) ys ≡ filter (ties lt x) zs) → ys ≡ zs
    up_unique [] [] up up' same = refl
    up_unique [] (z ∷ zs) up up' same = let a = filter-kept (ties lt z) z zs (tie_itself z) in let b = same z in absurd (cc)
    up_unique (y ∷ ys) [] up up' same = let a = filter-kept (ties lt y) y ys (tie_itself y) in let b = same y in absurd (cc)
    up_unique (y ∷ ys) (z ∷ zs) up up' same =
        let tie : ties lt y z ≡ true = and_from _ _ (ap not (not_below y z ys zs up' (same y))) (ap not (not_below z y zs ys up (sym (same z)))) in
        let a = filter-kept (ties lt y) y ys (tie_itself y) in
        let b = filter-kept (ties lt y) z zs tie in
        let c = same y in
        let head : y ≡ z = cc in
        let again : (x : X) → filter (ties lt x) (y ∷ ys) ≡ filter (ties lt x) (y ∷ zs) = λ x. same x ∙ ap (λ w. filter (ties lt x) (w ∷ zs)) (sym head) in
        let tail : ys ≡ zs = up_unique ys zs up.1 up'.1 (λ x. same_tail y ys zs (ties lt x) (again x)) in
        cc

    -- what a stable sort leaves of a part that was in order
    pub part_kept : (p : X → Bool) (xs ys : List X) → IsUp ys → IsStableBy lt xs ys → IsUp (filter p xs) → filter p ys ≡ filter p xs
    part_kept p xs ys up stable part =
        up_unique (filter p ys) (filter p xs) (IsUp-filter p ys up) part (λ x. filter-comm (ties lt x) p ys ∙ (ap (filter p) (stable x) ∙ filter-comm p (ties lt x) xs))

    -- ---- the sort by insertion
    each-inserted : (P : X → Type 0) (x : X) (ys : List X) → P x → AllByRecursion P ys → AllByRecursion P (inserted lt x ys)
    each-inserted P x [] h all = (h, tt)
    each-inserted P x (y ∷ ys) h all = elim (lt y x) as (λ b. AllByRecursion P (cond b (y ∷ inserted lt x ys) (x ∷ y ∷ ys))) [ true ↦ (all.0, each-inserted P x ys h all.1) | false ↦ (h, all) ]

    IsUp-inserted : (x : X) (ys : List X) → IsUp ys → IsUp (inserted lt x ys)
    IsUp-inserted x [] up = (tt, tt)
    IsUp-inserted x (y ∷ ys) up = go (lt y x) refl (IsUp-inserted x ys up.1)
      where
        go : (b : Bool) → lt y x ≡ b → IsUp (inserted lt x ys) → IsUp (cond b (y ∷ inserted lt x ys) (x ∷ y ∷ ys))
        go true e ih = (each-inserted _ x ys (o.one_way y x e) up.0, ih)
        go false e ih = ((e, each_weaker _ _ (λ z h. o.chain z y x h e) ys up.0), up)

    pub IsUp-in_order : (xs : List X) → IsUp (in_order lt xs)
    unfolding in_order
    IsUp-in_order [] = tt
    IsUp-in_order (x ∷ xs) = IsUp-inserted x _ (IsUp-in_order xs)

    not_both : (x y z : X) → lt y x ≡ true → ties lt z y ≡ true → ties lt z x ≡ false
    not_both x y z e t = elim (cases_Bool (ties lt z x)) [
      | inr f ↦ f
      | inl h ↦ absurd (true≢false (sym e ∙ o.chain y z x (not-true _ (and_parts _ _ t).1) (not-true _ (and_parts _ _ h).0)))
    ]

    stable-inserted : (x : X) (ys : List X) (z : X) → filter (ties lt z) (inserted lt x ys) ≡ filter (ties lt z) (x ∷ ys)
    stable-inserted x [] z = refl
    stable-inserted x (y ∷ ys) z = go (lt y x) refl (stable-inserted x ys z)
      where
        go : (b : Bool) → lt y x ≡ b → filter (ties lt z) (inserted lt x ys) ≡ filter (ties lt z) (x ∷ ys) → filter (ties lt z) (cond b (y ∷ inserted lt x ys) (x ∷ y ∷ ys)) ≡ filter (ties lt z) (x ∷ y ∷ ys)
        go false e ih = refl
        go true e ih = elim (cases_Bool (ties lt z y)) [
          | inl t ↦ (let n = not_both x y z e t in
              let a = filter-kept (ties lt z) y (inserted lt x ys) t in let b = filter-dropped (ties lt z) x ys n in let c = filter-dropped (ties lt z) x (y ∷ ys) n in let d = filter-kept (ties lt z) y ys t in cc)
          | inr t ↦ (let a = filter-dropped (ties lt z) y (inserted lt x ys) t in let d = filter-dropped (ties lt z) y ys t in
              elim (cases_Bool (ties lt z x)) [
                | inl u ↦ (let b = filter-kept (ties lt z) x ys u in let c = filter-kept (ties lt z) x (y ∷ ys) u in cc)
                | inr u ↦ (let b = filter-dropped (ties lt z) x ys u in let c = filter-dropped (ties lt z) x (y ∷ ys) u in cc)
              ])
        ]

    stable_under : (x : X) (xs ys : List X) (z : X) → filter (ties lt z) ys ≡ filter (ties lt z) xs → filter (ties lt z) (x ∷ ys) ≡ filter (ties lt z) (x ∷ xs)
    stable_under x xs ys z e = ap (λ l. cond (ties lt z x) (x ∷ l) l) e

    pub stable-in_order : (xs : List X) → IsStableBy lt xs (in_order lt xs)
    unfolding in_order
    stable-in_order [] z = refl
    stable-in_order (x ∷ xs) z = stable-inserted x (in_order lt xs) z ∙ stable_under x xs (in_order lt xs) z (stable-in_order xs z)

    pub up_from_sorted : (xs : List X) → IsSortedBy lt xs → IsUp xs
    up_from_sorted [] up = tt
    up_from_sorted (x ∷ xs) up =
        let tail : IsSortedBy lt xs = λ k d p q. rw add-one (rw add-one at (up (suc k) d (omega arith) (omega arith))) in
        (recursion_from_All (λ y. lt y x ≡ false) xs (λ k d h. sorted_far lt o (x ∷ xs) up 0 (suc k) d (omega arith) (omega arith)), up_from_sorted xs tail)

    pub sorted_is-in_order : (xs ys : List X) → IsSortedBy lt ys → IsStableBy lt xs ys → ys ≡ in_order lt xs
    sorted_is-in_order xs ys up stable = up_unique ys (in_order lt xs) (up_from_sorted ys up) (IsUp-in_order xs) (λ z. stable z ∙ sym (stable-in_order xs z))

-- what holds of each element, or of each two whatever their order, holds after the sort
module _ {X : Type 0} (lt : X → X → Bool) where
  within-inserted : (P : X → Type 0) (x : X) (ys : List X) → P x → AllByRecursion P ys → AllByRecursion P (inserted lt x ys)
  within-inserted P x [] h all = (h, tt)
  within-inserted P x (y ∷ ys) h all = elim (lt y x) as (λ b. AllByRecursion P (cond b (y ∷ inserted lt x ys) (x ∷ y ∷ ys))) [ true ↦ (all.0, within-inserted P x ys h all.1) | false ↦ (h, all) ]

  pub each-in_order : (P : X → Type 0) (xs : List X) → AllByRecursion P xs → AllByRecursion P (in_order lt xs)
  unfolding in_order
  each-in_order P [] all = tt
  each-in_order P (x ∷ xs) all = within-inserted P x (in_order lt xs) all.0 (each-in_order P xs all.1)

  pairs-inserted : (P : X → X → Type 0) → ((x y : X) → P x y → P y x) → (x : X) (ys : List X) → AllByRecursion (P x) ys → AllPairs P ys → AllPairs P (inserted lt x ys)
  pairs-inserted P turn x [] h up = (tt, tt)
  pairs-inserted P turn x (y ∷ ys) h up = elim (lt y x) as (λ b. AllPairs P (cond b (y ∷ inserted lt x ys) (x ∷ y ∷ ys))) [
    | true ↦ (within-inserted (P y) x ys (turn x y h.0) up.0, pairs-inserted P turn x ys h.1 up.1)
    | false ↦ (h, up)
  ]

  pub pairs-in_order : (P : X → X → Type 0) → ((x y : X) → P x y → P y x) → (xs : List X) → AllPairs P xs → AllPairs P (in_order lt xs)
  unfolding in_order
  pairs-in_order P turn [] up = tt
  pairs-in_order P turn (x ∷ xs) up = pairs-inserted P turn x (in_order lt xs) (each-in_order (P x) xs up.0) (pairs-in_order P turn xs up.1)
