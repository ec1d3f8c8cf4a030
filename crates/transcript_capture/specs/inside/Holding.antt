-- What a sink holds, and fronts of lists, which the laws of a taker of lines cite.
use Rattle.std.proofs.Common.{◌≡◌, ℕ, suc, ◌+◌, ◌≤◌, List, [], ◌∷◌, ◌++◌, length, take, Option, Some, None, refl, sym, ap, ◌∙◌, append_assoc, arith, inl, inr}
use Rattle.std.proofs.lemmas.List.{append-nil}
use Rattle.lan_base.specs.Faults.{Rose}
use Rattle.lan_base.specs.Told.{after}

pub after-none : (held : Option (List ℕ)) → held ≡ after held []
after-none None = refl
after-none (Some l) = ap (λ (m : List ℕ). Some m) (sym (append-nil l))

pub after-after : (held : Option (List ℕ)) (xs ys : List ℕ) → after (after held xs) ys ≡ after held (xs ++ ys)
after-after None xs ys = refl
after-after (Some l) xs ys = ap (λ (m : List ℕ). Some m) (append_assoc l xs ys)

-- a part, and so many of what is behind it
pub take-behind : (xs ys : List ℕ) (n : ℕ) → take (length xs + n) (xs ++ ys) ≡ xs ++ take n ys
take-behind [] ys n = let e : 0 + n ≡ n = omega arith in ap (λ (k : ℕ). take k ys) e
take-behind (x ∷ xs) ys n =
    let e : length (x ∷ xs) + n ≡ suc (length xs + n) = omega arith in
    ap (λ (k : ℕ). take k (x ∷ (xs ++ ys))) e ∙ ap (λ (l : List ℕ). x ∷ l) (take-behind xs ys n)

-- a part was held, and then so many of what is behind it
pub part-behind : (held middle then : Option (List ℕ)) (xs ys : List ℕ) (n : ℕ) → middle ≡ after held xs
    → then ≡ after middle (take n ys) → then ≡ after held (take (length xs + n) (xs ++ ys))
part-behind held middle then xs ys n first second =
    second ∙ ap (λ (h : Option (List ℕ)). after h (take n ys)) first ∙ after-after held xs (take n ys)
    ∙ ap (after held) (sym (take-behind xs ys n))

pub rose-earlier : (a b now : ℕ) → a ≤ b → Rose b now → Rose a now
rose-earlier a b now le (inl lt) = inl (omega (arith, le, lt))
rose-earlier a b now le (inr full) = inr full
