-- Who is in a roster.
use Rattle.std.proofs.Common.{◌≡◌, ◌<◌, ℕ, zero, suc, Bool, true, false, List, [], ◌∷◌, take, length, get_or, refl, arith}
use Rattle.std.specs.List.{list_any}
use Rattle.sak_exchange.proofs.Cases.{by_test}

pub any-first : {X : Type 0} (q : X → Bool) (xs : List X) (i : ℕ) (d : X) → i < length xs → q (get_or xs i d) ≡ true → list_any q xs ≡ true
any-first q [] i d l is = absurd (omega arith)
any-first q (x ∷ xs) zero d l is = rw is refl
any-first q (x ∷ xs) (suc i) d l is =
    by_test (q x) (λ e. rw e refl) (λ e. rw e (any-first q xs i d (omega arith) is))

pub any-more : {X : Type 0} (q : X → Bool) (xs : List X) (i : ℕ) (d : X) → i < length xs → list_any q (take i xs) ≡ false → q (get_or xs i d) ≡ false → list_any q (take (suc i) xs) ≡ false
any-more q [] i d l none is = absurd (omega arith)
any-more q (x ∷ xs) zero d l none is = rw is refl
any-more q (x ∷ xs) (suc i) d l none is =
    by_test (q x) (λ e. absurd (cc (rw e at none))) (λ e. rw e (any-more q xs i d (omega arith) (rw e at none) is))
