-- What a test finds of all octets holds of each.
use Rattle.std.proofs.Common.{◌≡◌, ℕ, zero, suc, ◌+◌, ◌<◌, ◌≤◌, Bool, true, eqb, ltb, subst, arith, inl, inr}
use Rattle.std.specs.List.{list_all, range_with_len}
use Rattle.std.proofs.lemmas.Bool.{and_parts, cases_order, eqb-true, ltb-true}
use Rattle.aes_block.specs.Octet.{octets}

-- of n numbers, from a on
at_number : (p : ℕ → Bool) (a n : ℕ) → list_all p (range_with_len a n) ≡ true → (k : ℕ) → a ≤ k → k < a + n → p k ≡ true
at_number p a zero all k low high = absurd (omega arith)
at_number p a (suc n) all k low high =
    let parts = and_parts (p a) (list_all p (range_with_len (a + 1) n)) all in
    elim (cases_order a k) [
      | inl e ↦ subst (λ j. p j ≡ true) e parts.0
      | inr h ↦ elim h [ inl below ↦ at_number p (a + 1) n parts.1 k (omega arith) (omega arith) | inr above ↦ absurd (omega arith) ]
    ]

-- of each octet
pub at_octet : (p : ℕ → Bool) → list_all p octets ≡ true → (n : ℕ) → n < 256 → p n ≡ true
at_octet p all n fits = at_number p 0 256 all n (omega arith) (omega arith)

-- two functions are equal at each octet
pub equal_at_octet : (f g : ℕ → ℕ) → list_all (λ n. eqb (f n) (g n)) octets ≡ true → (n : ℕ) → n < 256 → f n ≡ g n
equal_at_octet f g all n fits = eqb-true (f n) (g n) (at_octet (λ k. eqb (f k) (g k)) all n fits)

-- a function's values at octets are below a number
pub below_at_octet : (f : ℕ → ℕ) (m : ℕ) → list_all (λ n. ltb (f n) m) octets ≡ true → (n : ℕ) → n < 256 → f n < m
below_at_octet f m all n fits = ltb-true (f n) m (at_octet (λ k. ltb (f k) m) all n fits)

-- two functions are equal at each pair of octets
pub equal_at_octets : (f g : ℕ → ℕ → ℕ) → list_all (λ a. list_all (λ b. eqb (f a b) (g a b)) octets) octets ≡ true
    → (a b : ℕ) → a < 256 → b < 256 → f a b ≡ g a b
equal_at_octets f g all a b fa fb =
    equal_at_octet (f a) (g a) (at_octet (λ k. list_all (λ j. eqb (f k j) (g k j)) octets) all a fa) b fb

-- two functions are equal below n
pub equal_below : (f g : ℕ → ℕ) (n : ℕ) → list_all (λ k. eqb (f k) (g k)) (range_with_len 0 n) ≡ true → (k : ℕ) → k < n → f k ≡ g k
equal_below f g n all k fits = eqb-true (f k) (g k) (at_number (λ j. eqb (f j) (g j)) 0 n all k (omega arith) (omega arith))

-- a function's values below n are below m
pub below_number : (f : ℕ → ℕ) (m n : ℕ) → list_all (λ k. ltb (f k) m) (range_with_len 0 n) ≡ true → (k : ℕ) → k < n → f k < m
below_number f m n all k fits = ltb-true (f k) m (at_number (λ j. ltb (f j) m) 0 n all k (omega arith) (omega arith))
