-- Octets that move in two steps move in one.
use Rattle.std.proofs.Common.{◌≡◌, ℕ, ◌+◌, ◌≤◌, List, ◌++◌, length, Option, None, Some, refl, sym, ap, append_assoc, take, drop, ◌∙◌, length-append}
use Rattle.std.proofs.Math.Seq.{take-add}
use Rattle.std.proofs.lemmas.List.{length-take-le}
use Rattle.lan_base.specs.Told.{before, after}

before-before : (xs ys : List ℕ) (told : Option (List ℕ)) → before xs (before ys told) ≡ before (xs ++ ys) told
before-before xs ys None = refl
before-before xs ys (Some rest) = ap Some (sym (append_assoc xs ys rest))

-- what was left is what went first, then what went next, and then what is left
pub before-next : {first next : Option (List ℕ)} (last : Option (List ℕ)) (xs ys : List ℕ) → first ≡ before xs next → next ≡ before ys last → first ≡ before (xs ++ ys) last
before-next last xs ys e f = e ∙ ap (before xs) f ∙ before-before xs ys last

-- so many octets went in both steps
pub length-next : (xs into : List ℕ) (n : ℕ) → n ≤ length into → length (xs ++ take n into) ≡ length xs + n
length-next xs into n fits = length-append xs (take n into) ∙ ap (λ k. length xs + k) (length-take-le n into fits)

after-after : (told : Option (List ℕ)) (xs ys : List ℕ) → after (after told xs) ys ≡ after told (xs ++ ys)
after-after None xs ys = refl
after-after (Some held) xs ys = ap Some (append_assoc held xs ys)

-- a prefix of octets, and then a prefix of the rest
pub after-fronts : (told : Option (List ℕ)) (n m : ℕ) (octets : List ℕ) → after (after told (take n octets)) (take m (drop n octets)) ≡ after told (take (n + m) octets)
after-fronts told n m octets =
    after-after told (take n octets) (take m (drop n octets)) ∙ ap (after told) (sym (take-add n m octets))
