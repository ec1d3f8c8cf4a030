-- The association number of the next key that is made is that of no held key.
use Rattle.std.proofs.Common.{◌≡◌, ℕ, Bool, true, false, ◌||◌, List, [], ◌∷◌, None, refl}
use Rattle.lan_base.specs.declared.association_number.AssociationNumber.{AssociationNumber}
use Rattle.lan_base.specs.AssociationNumbers.{same_an, behind}
use Rattle.sak_exchange.specs.Histories.{Keying, ticked, installed, began, last_key}
use Rattle.sak_exchange.specs.Held.{received, KeepsRules}
use Rattle.sak_exchange.specs.Making.{is_used, free_from, next_an}
use Rattle.sak_exchange.proofs.AssociationNumbers.{leave-one}
use Rattle.sak_exchange.proofs.Cases.{by_test, by_option}
use Rattle.sak_exchange.proofs.Shape.{none, one, two, shape}

twice : (b : Bool) → (b || false) ≡ true → (b || (b || false)) ≡ true
twice true is = refl
twice false is = is

one-is-free : (base : ℕ) (h : List Keying) (a : AssociationNumber) → KeepsRules base h → is_used h a ≡ true → is_used h (behind a) ≡ true → is_used h (behind (behind a)) ≡ true → ⊥
one-is-free base h a kept first second third =
    elim (shape base h kept) [
      | none r ↦ let never = rw r at first in absurd (cc (never))
      | one k r last ↦ leave-one k.an k.an a (twice (same_an k.an a) (rw r at first)) (twice (same_an k.an (behind a)) (rw r at second))
          (twice (same_an k.an (behind (behind a))) (rw r at third))
      | two k o r last b ↦ leave-one k.an o.an a (rw r at first) (rw r at second) (rw r at third)
    ]

free-is : (base : ℕ) (h : List Keying) (a : AssociationNumber) → KeepsRules base h → is_used h (free_from 2 h a) ≡ false
free-is base h a kept =
    by_test (is_used h a)
    (λ s. by_test (is_used h (behind a))
    (λ t. by_test (is_used h (behind (behind a))) (λ u. absurd (one-is-free base h a kept s t u)) (λ u. rw (s, t) u))
    (λ t. rw (s, t) t))
    (λ s. rw s s)

none-held : (h : List Keying) → last_key h ≡ None → received h ≡ []
unfolding received
none-held [] is = refl
none-held (ticked s ∷ h) is = rw (none-held h is) refl
none-held (installed r k ∷ h) is = absurd (cc (is))
none-held (began e ∷ h) is = rw (none-held h is) refl

pub next-is-free : (base : ℕ) (h : List Keying) → KeepsRules base h → is_used h (next_an h) ≡ false
next-is-free base h kept =
    by_option (last_key h)
    (λ is. rw (none-held h is) refl)
    (λ k is. let free = free-is base h (behind k.an) kept in rw (next_an, is) free)
