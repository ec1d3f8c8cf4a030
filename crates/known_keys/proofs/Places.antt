-- Where a number stands in a list.
use Rattle.std.proofs.Common.{◌≡◌, ◌≢◌, ◌∙◌, ◌<◌, ◌≤◌, ℕ, zero, suc, Bool, true, false, cond, List, [], ◌∷◌, ◌++◌, length, get_or, Some, None, refl, sym, ap, arith}
use Rattle.std.specs.Prelude.{◌==◌, nat_lt, nat_le, position, insert}
use Rattle.std.specs.List.{position_or_len}
use Rattle.std.proofs.lemmas.Bool.{eq-eqb, ne_eqb, lt-ltb, le-ltb, leb-true, leb-false, ltb-false}
use Rattle.std.proofs.lemmas.List.Quantifiers.{position-Some}
use Rattle.std.proofs.lemmas.List.Sums.{fails_before_first}
use Rattle.known_keys.specs.inside.Steps.{with_place}

abbrev pub reached : ℕ → ℕ → Bool
reached n m = nat_le m n

passed-by : (n x : ℕ) (xs : List ℕ) → reached n x ≡ false → with_place n (x ∷ xs) ≡ x ∷ with_place n xs
passed-by n x xs over =
    ap (λ b. cond b (x ∷ with_place n xs) (cond (x == n) (x ∷ xs) (n ∷ x ∷ xs))) (lt-ltb n x (leb-false x n over))

at-head : (n x : ℕ) (xs : List ℕ) → reached n x ≡ true → with_place n (x ∷ xs) ≡ cond (x == n) (x ∷ xs) (n ∷ x ∷ xs)
at-head n x xs under =
    ap (λ b. cond b (x ∷ with_place n xs) (cond (x == n) (x ∷ xs) (n ∷ x ∷ xs))) (le-ltb n x (leb-true x n under))

-- where the first that is reached stands
found-same : (n : ℕ) (xs : List ℕ) (i d : ℕ) → i < length xs → reached n (get_or xs i d) ≡ true
    → ((k : ℕ) → k < i → reached n (get_or xs k d) ≡ false) → get_or xs i d ≡ n → with_place n xs ≡ xs
found-same n [] i d within here before same = absurd (omega (arith, within))
found-same n (x ∷ xs) zero d within here before same =
    at-head n x xs here ∙ ap (λ b. cond b (x ∷ xs) (n ∷ x ∷ xs)) (eq-eqb x n same)
found-same n (x ∷ xs) (suc i) d within here before same =
    passed-by n x xs (before 0 (omega arith))
    ∙ ap (λ ys. x ∷ ys) (found-same n xs i d (omega (arith, within)) here
    (λ k less. before (suc k) (omega (arith, less))) same)

found-other : (n : ℕ) (xs : List ℕ) (i d : ℕ) → i < length xs → reached n (get_or xs i d) ≡ true
    → ((k : ℕ) → k < i → reached n (get_or xs k d) ≡ false) → get_or xs i d ≢ n → insert xs i n ≡ with_place n xs
found-other n [] i d within here before apart = absurd (omega (arith, within))
found-other n (x ∷ xs) zero d within here before apart =
    sym (at-head n x xs here ∙ ap (λ b. cond b (x ∷ xs) (n ∷ x ∷ xs)) (ne_eqb x n apart))
found-other n (x ∷ xs) (suc i) d within here before apart =
    ap (λ ys. x ∷ ys) (found-other n xs i d (omega (arith, within)) here
    (λ k less. before (suc k) (omega (arith, less))) apart)
    ∙ sym (passed-by n x xs (before 0 (omega arith)))

found-none : (n : ℕ) (xs : List ℕ) → ((k : ℕ) → k < length xs → reached n (get_or xs k 0) ≡ false)
    → with_place n xs ≡ xs ++ n ∷ []
found-none n [] before = refl
found-none n (x ∷ xs) before =
    passed-by n x xs (before 0 (omega arith))
    ∙ ap (λ ys. x ∷ ys) (found-none n xs (λ k less. before (suc k) (omega (arith, less))))

pub none-reached : (n : ℕ) (xs : List ℕ) → position (λ m. nat_le m n) xs ≡ None → xs ++ n ∷ [] ≡ with_place n xs
none-reached n xs none =
    let far : length xs ≤ position_or_len (reached n) xs =
    ltb-false (position_or_len (reached n) xs) (length xs) (go (nat_lt (position_or_len (reached n) xs) (length xs)) none) in
    sym (found-none n xs (λ k less. fails_before_first (reached n) xs k 0 (omega (arith, less, far))))
  where
    go : (b : Bool) → cond b (Some (position_or_len (reached n) xs)) None ≡ None → b ≡ false
    go true e = absurd (cc e)
    go false e = refl

pub one-reached : (n : ℕ) (xs : List ℕ) (i d : ℕ) → position (λ m. nat_le m n) xs ≡ Some i → get_or xs i d ≢ n
    → insert xs i n ≡ with_place n xs
one-reached n xs i d at apart =
    let found = position-Some (reached n) xs i d at in
    found-other n xs i d found.0 found.1 found.2 apart

pub stands-there : (n : ℕ) (xs : List ℕ) (i d : ℕ) → position (λ m. nat_le m n) xs ≡ Some i → get_or xs i d ≡ n
    → xs ≡ with_place n xs
stands-there n xs i d at same =
    let found = position-Some (reached n) xs i d at in
    sym (found-same n xs i d found.0 found.1 found.2 same)
