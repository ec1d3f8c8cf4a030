-- The place of a name.
use Rattle.std.proofs.Common.{◌≡◌, ◌<◌, ℕ, Bool, true, false, List, length, get_or, Some, None, refl, arith}
use Rattle.std.specs.List.{position}
use Rattle.std.proofs.lemmas.Bool.{lt-ltb, le-ltb}
use Rattle.std.proofs.lemmas.List.Sums.{position_or_len_is}

pub placed : {A : Type 0} (p : A → Bool) (xs : List A) (i : ℕ) (d : A) → i < length xs
    → ((k : ℕ) → k < i → p (get_or xs k d) ≡ false) → p (get_or xs i d) ≡ true → position p xs ≡ Some i
placed p xs i d less none here =
    let at = position_or_len_is p xs i d (omega (arith, less)) none (λ _. here) in
    rw (at, lt-ltb i (length xs) less) refl

pub nowhere : {A : Type 0} (p : A → Bool) (xs : List A) (d : A)
    → ((k : ℕ) → k < length xs → p (get_or xs k d) ≡ false) → position p xs ≡ None
nowhere p xs d none =
    let at = position_or_len_is p xs (length xs) d (omega arith) none (λ less. absurd (omega (arith, less))) in
    rw (at, le-ltb (length xs) (length xs) (omega arith)) refl
