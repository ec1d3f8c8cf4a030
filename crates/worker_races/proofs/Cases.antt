-- By cases: each association number, each element of a short list, and how much a test counts.
use Rattle.std.proofs.Common.{◌≡◌, ◌≤◌, ◌+◌, ℕ, zero, suc, Bool, true, false, List, [], ◌∷◌, refl, subst, arith, inl, inr}
use Rattle.std.specs.Prelude.{replicate, slice_index_or}
use Rattle.lan_base.specs.declared.association_number.AssociationNumber.{AssociationNumber}
use Rattle.lan_base.specs.declared.association_number.AssociationNumber.TheVariants.{An0, An1, An2, An3}
use Rattle.association_slots.specs.Views.{In, one}

pub by-an : (P : AssociationNumber → Type 0) → P An0 → P An1 → P An2 → P An3
    → (an : AssociationNumber) → P an
by-an P a b c d An0 = a
by-an P a b c d An1 = b
by-an P a b c d An2 = c
by-an P a b c d An3 = d

pub only : {A : Type 0} (P : A → Type 0) (x : A) → P x → (y : A) → In y (x ∷ []) → P y
only P x p y i = elim i [ inl e ↦ subst P e p | inr j ↦ absurd j ]

pub two : {A : Type 0} (P : A → Type 0) (x y : A) → P x → P y → (z : A) → In z (x ∷ y ∷ []) → P z
two P x y p q z i = elim i [ inl e ↦ subst P e p | inr j ↦ only P y q z j ]

pub three : {A : Type 0} (P : A → Type 0) (x y z : A) → P x → P y → P z → (w : A)
    → In w (x ∷ y ∷ z ∷ []) → P w
three P x y z p q s w i = elim i [ inl e ↦ subst P e p | inr j ↦ two P y z q s w j ]

-- what holds of five elements, and of those behind them
pub five : {A : Type 0} (P : A → Type 0) (a b c d e : A) (more : List A) → P a → P b → P c → P d → P e
    → ((r : A) → In r more → P r) → (r : A) → In r (a ∷ b ∷ c ∷ d ∷ e ∷ more) → P r
five P a b c d e more p q s t u others r i = elim i [
  | inl g ↦ subst P g p
  | inr i ↦ elim i [
    | inl g ↦ subst P g q
    | inr i ↦ elim i [
      | inl g ↦ subst P g s
      | inr i ↦ elim i [
        | inl g ↦ subst P g t
        | inr i ↦ elim i [ inl g ↦ subst P g u | inr j ↦ others r j ]
      ]
    ]
  ]
]

pub one-most : (b : Bool) → one b + 0 ≤ 1
one-most true = omega arith
one-most false = omega arith

pub all-false : (n i : ℕ) → slice_index_or (replicate n false) i false ≡ false
all-false zero i = refl
all-false (suc n) zero = refl
all-false (suc n) (suc i) = all-false n i
