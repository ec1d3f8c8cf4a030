-- The first element that passes a test, and the filter by it.
use Rattle.std.proofs.Common.{◌≡◌, ℕ, ◌<◌, ◌≤◌, Bool, true, false, cond, List, [], ◌∷◌, Some, None, is_some, map, refl, ap, sym, ◌∙◌, arith, nat_le, max, unwrap_or}
use Rattle.std.proofs.lemmas.Bool.{leb-false, lt-leb}
use Rattle.std.specs.List.{list_any, filter, find}
use Rattle.std.specs.Option.{option_map, option_and_then}
use Rattle.peer_lists.specs.Acceptance.{greatest, first_number}
use Rattle.lan_base.specs.Falling.{IsAbove, IsFalling}
use Rattle.peer_lists.proofs.Identifiers.{by_test}

pub find-here : {A : Type 0} (q : A → Bool) (x : A) (xs : List A) → q x ≡ true → find q (x ∷ xs) ≡ Some x
find-here q x xs e = rw e refl

pub find-on : {A : Type 0} (q : A → Bool) (x : A) (xs : List A) → q x ≡ false → find q (x ∷ xs) ≡ find q xs
find-on q x xs e = rw e refl

-- what is found passes
pub find-passes : {A : Type 0} (q : A → Bool) (xs : List A) (a : A) → find q xs ≡ Some a → q a ≡ true
find-passes q [] a e = cc
find-passes q (x ∷ xs) a e =
    by_test (q x) (λ f. let same : x ≡ a = cc (e, find-here q x xs f) in rw (← same) f) (λ f. find-passes q xs a (sym (find-on q x xs f) ∙ e))

-- what is found is there for each test that it passes
pub find-any : {A : Type 0} (p q : A → Bool) (xs : List A) (a : A) → find q xs ≡ Some a → p a ≡ true → list_any p xs ≡ true
find-any p q [] a e h = cc
find-any p q (x ∷ xs) a e h =
    by_test (q x) (λ f. let same : x ≡ a = cc (e, find-here q x xs f) in let g : p x ≡ true = rw same h in rw g refl)
    (λ f. by_test (p x) (λ g. rw g refl) (λ g. rw g (find-any p q xs a (sym (find-on q x xs f) ∙ e) h)))

pub find-is_some : {A : Type 0} (q : A → Bool) (xs : List A) → is_some (find q xs) ≡ list_any q xs
find-is_some q [] = refl
find-is_some q (x ∷ xs) = by_test (q x) (λ f. rw f refl) (λ f. rw f (find-is_some q xs))

-- the first of what a filter keeps
pub first-filter : {A : Type 0} (f : A → ℕ) (q : A → Bool) (xs : List A) → first_number (map f (filter q xs)) ≡ option_map f (find q xs)
first-filter f q [] = refl
first-filter f q (x ∷ xs) = by_test (q x) (λ e. rw e refl) (λ e. rw e (first-filter f q xs))

above-filter : (q : ℕ → Bool) (n : ℕ) (ns : List ℕ) → IsAbove n ns → IsAbove n (filter q ns)
above-filter q n [] h = tt
above-filter q n (k ∷ ks) h = by_test (q k) (λ e. rw e (h.0, above-filter q n ks h.1)) (λ e. rw e (above-filter q n ks h.1))

greatest-below : (n : ℕ) (ns : List ℕ) → IsAbove n ns → unwrap_or (greatest ns) 0 ≤ n
greatest-below n [] h = omega arith
greatest-below n (k ∷ ks) h = let r = greatest-below n ks h.1 in let l = h.0 in omega arith

-- the greatest of falling numbers is the first
pub greatest-first : (ns : List ℕ) → IsFalling ns → greatest ns ≡ first_number ns
greatest-first [] h = refl
greatest-first (n ∷ ns) h = let r = greatest-below n ns h.0 in let e : max n (unwrap_or (greatest ns) 0) ≡ n = omega arith in ap Some e

none-from : (k n : ℕ) (ns : List ℕ) → IsAbove n ns → n < k → filter (nat_le k) ns ≡ []
none-from k n [] h l = refl
none-from k n (j ∷ js) h l = let b = h.0 in let e : nat_le k j ≡ false = lt-leb k j (omega arith) in rw e (none-from k n js h.1 l)

-- the greatest of falling numbers that are not less than another: the first, if it is not
pub greatest-from : (k : ℕ) (ns : List ℕ) → IsFalling ns → greatest (filter (nat_le k) ns) ≡ option_and_then (λ n. cond (nat_le k n) (Some n) None) (first_number ns)
greatest-from k [] h = refl
greatest-from k (n ∷ ns) h =
    by_test (nat_le k n)
    (λ e. let r = greatest-below n (filter (nat_le k) ns) (above-filter (nat_le k) n ns h.0) in
    let f : max n (unwrap_or (greatest (filter (nat_le k) ns)) 0) ≡ n = omega arith in rw e (ap Some f))
    (λ e. rw (e, none-from k n ns h.0 (leb-false k n e)) refl)

-- a filter that keeps less keeps numbers falling
pub above-fewer : {A : Type 0} (f : A → ℕ) (p q : A → Bool) → ((x : A) → q x ≡ true → p x ≡ true) → (n : ℕ) (xs : List A) → IsAbove n (map f (filter p xs)) → IsAbove n (map f (filter q xs))
above-fewer f p q i n [] h = tt
above-fewer f p q i n (x ∷ xs) h =
    by_test (q x)
    (λ e. let g = rw (i x e) at h in rw e (g.0, above-fewer f p q i n xs g.1))
    (λ e. by_test (p x) (λ g. let k = rw g at h in rw e (above-fewer f p q i n xs k.1)) (λ g. let k = rw g at h in rw e (above-fewer f p q i n xs k)))

pub falling-fewer : {A : Type 0} (f : A → ℕ) (p q : A → Bool) → ((x : A) → q x ≡ true → p x ≡ true) → (xs : List A) → IsFalling (map f (filter p xs)) → IsFalling (map f (filter q xs))
falling-fewer f p q i [] h = tt
falling-fewer f p q i (x ∷ xs) h =
    by_test (q x)
    (λ e. let g = rw (i x e) at h in rw e (above-fewer f p q i (f x) xs g.0, falling-fewer f p q i xs g.1))
    (λ e. by_test (p x) (λ g. let k = rw g at h in rw e (falling-fewer f p q i xs k.1)) (λ g. let k = rw g at h in rw e (falling-fewer f p q i xs k)))

-- where no number of a list is at least k, all are below it
pub above-none : (k : ℕ) (ns : List ℕ) → greatest (filter (nat_le k) ns) ≡ None → IsAbove k ns
above-none k [] h = tt
above-none k (n ∷ ns) h =
    by_test (nat_le k n) (λ e. let g = rw e at h in absurd (cc (g))) (λ e. let g = rw e at h in (leb-false k n e, above-none k ns g))
