-- What the fields of a `Control` keep, over its calls.
use Rattle.std.proofs.Common.{◌≡◌, ◌≢◌, ℕ, zero, suc, ◌+◌, ◌-◌, ◌<◌, ◌≤◌, max, Bool, true, false, eqb, List, [], ◌∷◌, ◌++◌, length, get_or, set, refl, sym, ap, ◌∙◌, subst, inl, inr, ⊎_elim, arith, eq-eqb, ne_eqb, get_or-set_other, get_or-set_same}
use mathlib.Core.Logic.{dite}
use native.Mathlib.Decide.{ℕ_discrete}
use Rattle.lan_base.specs.AssociationNumbers.{number_of}
use Rattle.lan_base.specs.declared.association_number.AssociationNumber.{AssociationNumber}
use Rattle.association_slots.specs.Views.{In, cons_if, blank_slot, greatest, of_seat}
use Rattle.association_slots.specs.declared.view.SlotView.{SlotView}
use Rattle.association_slots.specs.declared.view.Mark.{Mark}
use Rattle.association_slots.proofs.SlotNumbers.{same_or_apart}

-- no slot shows an epoch above n, after one changed to x
pub low_set : (n : ℕ) (ss : List SlotView) (k : AssociationNumber) (x : SlotView) → x.epoch ≤ n → ((j : AssociationNumber) → (get_or ss (number_of j) blank_slot).epoch ≤ n) → (j : AssociationNumber) → (get_or (set ss (number_of k) x) (number_of j) blank_slot).epoch ≤ n
low_set n ss k x low each j = ⊎_elim (λ e. subst (λ (i : AssociationNumber). (get_or (set ss (number_of k) x) (number_of i) blank_slot).epoch ≤ n) (sym e) here) (λ ne. subst (λ (y : SlotView). y.epoch ≤ n) (sym (get_or-set_other ss (number_of k) (number_of j) x blank_slot ne)) (each j)) (same_or_apart j k)
  where
    changed : (ys : List SlotView) (i : ℕ) → (get_or ys i blank_slot).epoch ≤ n → (get_or (set ys i x) i blank_slot).epoch ≤ n
    changed [] i was = was
    changed (y ∷ ys) zero was = low
    changed (y ∷ ys) (suc i) was = changed ys i was

    here : (get_or (set ss (number_of k) x) (number_of k) blank_slot).epoch ≤ n
    here = changed ss (number_of k) (each k)

-- The first free place, place by place

if_same : (b : Bool) (m : Mark) (ms : List Mark) → b ≡ true → greatest (cons_if b m ms) ≡ max m.epoch (greatest ms)
if_same b m ms is = ap (λ (x : Bool). greatest (cons_if x m ms)) is

if_other : (b : Bool) (m : Mark) (ms : List Mark) → b ≡ false → greatest (cons_if b m ms) ≡ greatest ms
if_other b m ms is = ap (λ (x : Bool). greatest (cons_if x m ms)) is

-- the marks of a seat stand before those that were told
pub greatest_own : (n : ℕ) (xs ys : List Mark) → ((m : Mark) → In m xs → m.seat ≡ n) → greatest (of_seat n (xs ++ ys)) ≡ max (greatest (of_seat n ys)) (greatest xs)
greatest_own n [] ys own = omega arith
greatest_own n (x ∷ xs) ys own = let r = greatest_own n xs ys (λ m i. own m (inr i)) in let s = if_same (eqb x.seat n) x (of_seat n (xs ++ ys)) (eq-eqb x.seat n (own x (inl refl))) in s ∙ omega (arith, r)

pub greatest_other : (n q : ℕ) (xs ys : List Mark) → q ≢ n → ((m : Mark) → In m xs → m.seat ≡ n) → greatest (of_seat q (xs ++ ys)) ≡ greatest (of_seat q ys)
greatest_other n q [] ys ne own = refl
greatest_other n q (x ∷ xs) ys ne own = if_other (eqb x.seat q) x (of_seat q (xs ++ ys)) (ne_eqb x.seat q (λ e. ne (sym e ∙ own x (inl refl)))) ∙ greatest_other n q xs ys ne (λ m i. own m (inr i))

-- the greatest told epoch of each number, when a seat has come back
pub overshot_told : (overshot : List ℕ) (n high : ℕ) (xs ys : List Mark) → length overshot ≡ 8 → 0 < n → n < 9 → ((m : Mark) → In m xs → m.seat ≡ n) → high ≡ greatest xs
    → ((i : ℕ) → i < 8 → get_or overshot i 0 ≡ greatest (of_seat (i + 1) ys)) → (i : ℕ) → i < 8 → get_or (set overshot (n - 1) (max (get_or overshot (n - 1) 0) high)) i 0 ≡ greatest (of_seat (i + 1) (xs ++ ys))
overshot_told overshot n high xs ys eight some few own is before i l = dite (ℕ_discrete i (n - 1))
    (λ same. let num : i + 1 ≡ n = omega arith in
    ap (λ (k : ℕ). get_or (set overshot (n - 1) (max (get_or overshot (n - 1) 0) high)) k 0) same ∙ (get_or-set_same overshot (n - 1) (max (get_or overshot (n - 1) 0) high) 0 (omega arith)
    ∙ (ap (λ (k : ℕ). max (get_or overshot k 0) high) (sym same) ∙ (let b = before i l in omega (arith, subst (λ (k : ℕ). greatest (of_seat (i + 1) (xs ++ ys)) ≡ max (greatest (of_seat k ys)) (greatest xs)) (sym num) (subst (λ (k : ℕ). greatest (of_seat k (xs ++ ys)) ≡ max (greatest (of_seat n ys)) (greatest xs)) (sym num) (greatest_own n xs ys own)))))))
    (λ ne. get_or-set_other overshot (n - 1) i (max (get_or overshot (n - 1) 0) high) 0 ne ∙ (before i l ∙ sym (greatest_other n (i + 1) xs ys (λ e. ne (omega arith)) own)))
