-- A list that ascends by a key, each of whose items is what is told of its key, is the only one.
use Rattle.std.proofs.Common.{◌≡◌, ◌∙◌, ◌⊎◌, inl, inr, true, false, cond, List, [], ◌∷◌, map, Option, Some, None, refl, sym, ap, subst}
use Rattle.std.specs.Prelude.{All, find, unwrap_or}
use Rattle.std.specs.Cmp.{IsTotalOrder}
use Rattle.std.specs.List.Sorted.{IsStrictlySortedBy}
use Rattle.std.specs.Map.{keys_of, lookup}
use Rattle.std.specs.BTreeMap.{is_at}
use Rattle.std.specs.Ordering.{eq_by_cmp, is_eq, ordering_reverse}
use Rattle.std.specs.declared.cmp.Ordering.{Ordering}
use Rattle.std.specs.declared.cmp.Ordering.TheVariants.{Less, Equal, Greater}
use Rattle.std.proofs.lemmas.Bool.{cases_Bool}
use Rattle.std.proofs.lemmas.List.Elements.{All-cons, All-nil}
use Rattle.std.proofs.lemmas.Cmp.{eq_by_cmp_equiv, tied_itself}
use Rattle.std.proofs.lemmas.Map.{lookup-none}
use Rattle.std.proofs.lemmas.Map.Entries.{lookup_head, lookup_tail, none_below_head, none_past_head}
use Rattle.std.proofs.lemmas.Map.Keys.{IsDistinct-from_sorted, sorted_tail}

module _ {X K : Type 0} (key : X → K) {R : K → K → Ordering} (order : IsTotalOrder R) where
  abbrev pub Ascends : List X → Type 0
  Ascends xs = IsStrictlySortedBy R (map key xs)

  -- the item of a key
  abbrev pub item : List X → K → Option X
  item xs q = find (λ x. is_eq (R q (key x))) xs

  -- ---- as entries of a map

  abbrev keyed : X → K × X
  keyed x = (key x, x)

  abbrev Entered : List X → Type 0
  Entered xs = IsStrictlySortedBy R (keys_of (map keyed xs))

  abbrev at : List X → K → Option X
  at xs q = lookup (is_at (R q)) (map keyed xs)

  keys-kept : (xs : List X) → keys_of (map keyed xs) ≡ map key xs
  keys-kept [] = refl
  keys-kept (x ∷ xs) = ap (λ (ks : List K). key x ∷ ks) (keys-kept xs)

  found : (xs : List X) (q : K) → at xs q ≡ item xs q
  found [] q = refl
  found (x ∷ xs) q = ap (λ (o : Option X). cond (is_eq (R q (key x))) (Some x) o) (found xs q)

  at-head : (x : X) (xs : List X) → at (x ∷ xs) (key x) ≡ Some x
  at-head x xs = lookup_head (is_at (R (key x))) (keyed x) (map keyed xs) (ap is_eq (tied_itself order (key x)))

  past-head : (q : K) (x : X) (xs : List X) → Entered (x ∷ xs) → eq_by_cmp R q (key x) ≡ true → at xs q ≡ None
  past-head q x xs sorted same =
      lookup-none (is_at (R q)) (map keyed xs)
      (none_past_head (eq_by_cmp_equiv order) q (keyed x) (map keyed xs) (IsDistinct-from_sorted R (keys_of (map keyed (x ∷ xs))) sorted) same)

  below-head : (q : K) (x : X) (xs : List X) → Entered (x ∷ xs) → R q (key x) ≡ Less → at (x ∷ xs) q ≡ None
  below-head q x xs sorted less =
      lookup-none (is_at (R q)) (map keyed (x ∷ xs)) (none_below_head order q (keyed x) (map keyed xs) sorted less)

  -- ---- the same items

  module _ (x y : X) (xs ys : List X) (sorted : Entered (x ∷ xs)) (also : Entered (y ∷ ys))
      (same : (q : K) → at (x ∷ xs) q ≡ at (y ∷ ys) q) where
    by-heads : (r : Ordering) → R (key x) (key y) ≡ r → R (key x) (key y) ≡ Equal
    by-heads Less is = absurd (cc (sym (at-head x xs) ∙ same (key x) ∙ below-head (key x) y ys also is))
    by-heads Equal is = is
    by-heads Greater is =
        absurd (cc (sym (at-head y ys) ∙ sym (same (key y))
        ∙ below-head (key y) x xs sorted (order.antisymm (key y) (key x) ∙ ap ordering_reverse is)))

    heads : R (key x) (key y) ≡ Equal
    heads = by-heads (R (key x) (key y)) refl

    first : x ≡ y
    first =
        ap (λ (o : Option X). unwrap_or o x)
        (sym (at-head x xs) ∙ same (key x) ∙ lookup_head (is_at (R (key x))) (keyed y) (map keyed ys) (ap is_eq heads))

    tails : (q : K) → at xs q ≡ at ys q
    tails q = go (cases_Bool (eq_by_cmp R q (key x)))
      where
        turned : eq_by_cmp R q (key y) ≡ eq_by_cmp R q (key x)
        turned = ap (λ (z : X). eq_by_cmp R q (key z)) (sym first)

        go : (eq_by_cmp R q (key x) ≡ true) ⊎ (eq_by_cmp R q (key x) ≡ false) → at xs q ≡ at ys q
        go (inl here) = past-head q x xs sorted here ∙ sym (past-head q y ys also (turned ∙ here))
        go (inr there) =
            sym (lookup_tail (is_at (R q)) (keyed x) (map keyed xs) there) ∙ same q
            ∙ lookup_tail (is_at (R q)) (keyed y) (map keyed ys) (turned ∙ there)

  one-list : (xs ys : List X) → Entered xs → Entered ys → ((q : K) → at xs q ≡ at ys q) → xs ≡ ys
  one-list [] [] sorted also same = refl
  one-list [] (y ∷ ys) sorted also same = absurd (cc (same (key y) ∙ at-head y ys))
  one-list (x ∷ xs) [] sorted also same = absurd (cc (sym (same (key x)) ∙ at-head x xs))
  one-list (x ∷ xs) (y ∷ ys) sorted also same =
      let one = first x y xs ys sorted also same in
      let later = one-list xs ys (sorted_tail R (key x) (keys_of (map keyed xs)) sorted)
      (sorted_tail R (key y) (keys_of (map keyed ys)) also) (tails x y xs ys sorted also same) in
      λ i. one i ∷ later i

  entered : (xs : List X) → Ascends xs → Entered xs
  entered xs = subst (IsStrictlySortedBy R) (sym (keys-kept xs))

  -- what holds of each item that is told of its key holds of all
  all-entered : (P : X → Type 0) (xs : List X) → Entered xs → ((q : K) (x : X) → at xs q ≡ Some x → P x) → All P xs
  all-entered P [] sorted each = All-nil P
  all-entered P (x ∷ xs) sorted each =
      All-cons P x xs (each (key x) x (at-head x xs))
      (all-entered P xs (sorted_tail R (key x) (keys_of (map keyed xs)) sorted) (λ q y is. each q y (later q y is)))
    where
      later : (q : K) (y : X) → at xs q ≡ Some y → at (x ∷ xs) q ≡ Some y
      later q y is = go (cases_Bool (eq_by_cmp R q (key x)))
        where
          go : (eq_by_cmp R q (key x) ≡ true) ⊎ (eq_by_cmp R q (key x) ≡ false) → at (x ∷ xs) q ≡ Some y
          go (inl here) = absurd (cc (sym (past-head q x xs sorted here) ∙ is))
          go (inr there) = lookup_tail (is_at (R q)) (keyed x) (map keyed xs) there ∙ is

  pub all-told : (P : X → Type 0) (xs : List X) → Ascends xs → ((q : K) (x : X) → item xs q ≡ Some x → P x) → All P xs
  all-told P xs sorted each = all-entered P xs (entered xs sorted) (λ q x is. each q x (sym (found xs q) ∙ is))

  pub alone : (xs ys : List X) → Ascends xs → Ascends ys → ((q : K) → item xs q ≡ item ys q) → xs ≡ ys
  alone xs ys sorted also same =
      one-list xs ys (entered xs sorted) (entered ys also) (λ q. found xs q ∙ same q ∙ sym (found ys q))
