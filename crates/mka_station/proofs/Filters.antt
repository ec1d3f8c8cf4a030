-- What is mapped of the elements that pass a test, one element more.
use Rattle.std.proofs.Common.{◌≡◌, ◌<◌, ◌∙◌, ℕ, zero, suc, ◌+◌, None, arith, Bool, true, false, cond, List, [], ◌∷◌, ◌++◌, map, take, length, get_or, ap, refl}
use Rattle.std.specs.List.{filter, find, list_any, list_all}
use Rattle.sak_exchange.proofs.Public.{by_test}
use Rattle.std.proofs.lemmas.List.Elements.{filter_more}
use Rattle.std.proofs.lemmas.List.{map-append}

map-cond : {X Y : Type 0} (f : X → Y) (b : Bool) (x : X) → map f (cond b (x ∷ []) []) ≡ cond b (f x ∷ []) []
map-cond f true x = refl
map-cond f false x = refl

pub map-filter_more : {X Y : Type 0} (f : X → Y) (p : X → Bool) (xs : List X) (i : ℕ) (d : X) → i < length xs
    → map f (filter p (take (i + 1) xs)) ≡ map f (filter p (take i xs)) ++ cond (p (get_or xs i d)) (f (get_or xs i d) ∷ []) []
map-filter_more f p xs i d l =
    ap (map f) (filter_more p xs i d l) ∙ map-append f (filter p (take i xs)) _ ∙ ap (λ ys. map f (filter p (take i xs)) ++ ys) (map-cond f (p (get_or xs i d)) (get_or xs i d))

-- ---- tests over the first elements of a list

pub find-more : {X : Type 0} (q : X → Bool) (xs : List X) (i : ℕ) (d : X) → i < length xs → find q (take i xs) ≡ None → q (get_or xs i d) ≡ false → find q (take (suc i) xs) ≡ None
find-more q [] i d l none is = absurd (omega arith)
find-more q (x ∷ xs) zero d l none is = rw is refl
find-more q (x ∷ xs) (suc i) d l none is =
    by_test (q x) (λ e. absurd (cc (rw e at none))) (λ e. rw e (find-more q xs i d (omega arith) (rw e at none) is))

pub any-first : {X : Type 0} (q : X → Bool) (xs : List X) (i : ℕ) (d : X) → i < length xs → q (get_or xs i d) ≡ true → list_any q xs ≡ true
any-first q [] i d l is = absurd (omega arith)
any-first q (x ∷ xs) zero d l is = rw is refl
any-first q (x ∷ xs) (suc i) d l is =
    by_test (q x) (λ e. rw e refl) (λ e. rw e (any-first q xs i d (omega arith) is))

pub any-more : {X : Type 0} (q : X → Bool) (xs : List X) (i : ℕ) (d : X) → i < length xs → list_any q (take i xs) ≡ false → q (get_or xs i d) ≡ false → list_any q (take (suc i) xs) ≡ false
any-more q [] i d l none is = absurd (omega arith)
any-more q (x ∷ xs) zero d l none is = rw is refl
any-more q (x ∷ xs) (suc i) d l none is =
    by_test (q x) (λ e. absurd (cc (rw e at none))) (λ e. rw e (any-more q xs i d (omega arith) (rw e at none) is))

pub all-first : {X : Type 0} (q : X → Bool) (xs : List X) (i : ℕ) (d : X) → i < length xs → q (get_or xs i d) ≡ false → list_all q xs ≡ false
all-first q [] i d l is = absurd (omega arith)
all-first q (x ∷ xs) zero d l is = rw is refl
all-first q (x ∷ xs) (suc i) d l is =
    by_test (q x) (λ e. rw e (all-first q xs i d (omega arith) is)) (λ e. rw e refl)

pub all-more : {X : Type 0} (q : X → Bool) (xs : List X) (i : ℕ) (d : X) → i < length xs → list_all q (take i xs) ≡ true → q (get_or xs i d) ≡ true → list_all q (take (suc i) xs) ≡ true
all-more q [] i d l all is = absurd (omega arith)
all-more q (x ∷ xs) zero d l all is = rw is refl
all-more q (x ∷ xs) (suc i) d l all is =
    by_test (q x) (λ e. rw e (all-more q xs i d (omega arith) (rw e at all) is)) (λ e. absurd (cc (rw e at all)))
