-- What is found in a list where only one passes.
use Rattle.std.proofs.Common.{◌≡◌, refl, sym, ap, ◌∙◌, inl, inr, List, [], ◌∷◌}
use Rattle.std.proofs.Common.{Bool, true, false, Some, find}
use Rattle.std.proofs.lemmas.Bool.{true≢false}
use Rattle.group_safety.proofs.Public.{In}

pub find-only : {A : Type 0} (p : A → Bool) (xs : List A) (x : A) → In x xs → p x ≡ true
    → ((y : A) → In y xs → p y ≡ true → y ≡ x) → find p xs ≡ Some x
find-only p [] x i passes only = elim i [ ]
find-only {A} p (y ∷ ys) x i passes only =
    go (p y) refl i (λ later. find-only p ys x later passes (λ z j t. only z (inr j) t))
  where
    go : (b : Bool) → p y ≡ b → In x (y ∷ ys) → (In x ys → find p ys ≡ Some x)
        → find p (y ∷ ys) ≡ Some x
    go true is i rest = rw is (ap (λ z. Some z) (only y (inl refl) is))
    go false is (inl same) rest = absurd (true≢false (sym passes ∙ ap p same ∙ is))
    go false is (inr later) rest = rw is (rest later)
