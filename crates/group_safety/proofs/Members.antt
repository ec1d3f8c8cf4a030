-- What stands in a list, by recursion over it, as the proofs take it apart: the same as std's
-- `Contains`, of which the definitions speak. And cases of a sum.
use Rattle.std.proofs.Common.{◌≡◌, ◌⊎◌, ◌∙◌, inl, inr, ℕ, zero, suc, ◌<◌, List, [], ◌∷◌, ◌++◌, map}
use Rattle.std.proofs.Common.{length, refl, ap, sym, arith, Bool, true, false, cond}
use Rattle.std.proofs.Common.{Option, Some, None}
use Rattle.std.specs.Prelude.{Contains, slice_index_or, option_map, option_to_list}
use Rattle.std.specs.List.{filter, list_all, list_any}
use Rattle.std.proofs.lemmas.Bool.{true≢false}
use Rattle.sak_exchange.proofs.Public.{by_test}

abbrev pub In : {A : Type 0} → A → List A → Type 0
In a [] = ⊥
In a (b ∷ bs) = (a ≡ b) ⊎ In a bs

-- ---- the same as to be contained

at-in : {A : Type 0} (xs : List A) (x : A) (k : ℕ) → k < length xs → slice_index_or xs k x ≡ x
    → In x xs
at-in [] x k less is = absurd (omega arith)
at-in (y ∷ ys) x zero less is = inl (sym is)
at-in (y ∷ ys) x (suc k) less is = inr (at-in ys x k (omega arith) is)

pub contains-in : {A : Type 0} (xs : List A) (x : A) → Contains xs x → In x xs
contains-in xs x (k, less, is) = at-in xs x k less is

pub in-contains : {A : Type 0} (xs : List A) (x : A) → In x xs → Contains xs x
in-contains [] x i = absurd i
in-contains (y ∷ ys) x (inl e) = (0, omega arith, sym e)
in-contains (y ∷ ys) x (inr i) =
    let at = in-contains ys x i in let less = at.1 in (suc at.0, omega (arith, less), at.2)

-- ---- lists that are joined, mapped or filtered

pub in-left : {A : Type 0} (xs ys : List A) (x : A) → In x xs → In x (xs ++ ys)
in-left [] ys x i = absurd i
in-left (y ∷ xs) ys x (inl e) = inl e
in-left (y ∷ xs) ys x (inr i) = inr (in-left xs ys x i)

pub in-right : {A : Type 0} (xs ys : List A) (x : A) → In x ys → In x (xs ++ ys)
in-right [] ys x i = i
in-right (y ∷ xs) ys x i = inr (in-right xs ys x i)

pub in-either : {A : Type 0} (xs ys : List A) (x : A) → In x (xs ++ ys) → In x xs ⊎ In x ys
in-either [] ys x i = inr i
in-either (y ∷ xs) ys x (inl e) = inl (inl e)
in-either (y ∷ xs) ys x (inr i) =
    elim (in-either xs ys x i) [ inl j ↦ inl (inr j) | inr j ↦ inr j ]

pub in-map : {A B : Type 0} (f : A → B) (xs : List A) (x : A) → In x xs → In (f x) (map f xs)
in-map f [] x i = absurd i
in-map f (y ∷ ys) x (inl e) = inl (ap f e)
in-map f (y ∷ ys) x (inr i) = inr (in-map f ys x i)

pub in-from_map : {A B : Type 0} (f : A → B) (xs : List A) (y : B) → In y (map f xs)
    → (x : A) × In x xs × (y ≡ f x)
in-from_map f [] y i = absurd i
in-from_map f (x ∷ xs) y (inl e) = (x, inl refl, e)
in-from_map f (x ∷ xs) y (inr i) = let r = in-from_map f xs y i in (r.0, inr r.1, r.2)

pub in-option : {A B : Type 0} (f : A → B) (o : Option A) (y : B)
    → In y (option_to_list (option_map f o)) → (x : A) × (o ≡ Some x) × (y ≡ f x)
in-option f None y i = absurd i
in-option f (Some x) y (inl e) = (x, refl, e)
in-option f (Some x) y (inr i) = absurd i

in-kept : {A : Type 0} (x y : A) (ys : List A) (b : Bool) → In x ys → In x (cond b (y ∷ ys) ys)
in-kept x y ys true i = inr i
in-kept x y ys false i = i

pub in-filter : {A : Type 0} (p : A → Bool) (xs : List A) (x : A) → In x xs → p x ≡ true
    → In x (filter p xs)
in-filter p [] x i e = absurd i
in-filter p (y ∷ ys) x (inl same) e = rw (ap p (sym same) ∙ e) (inl same)
in-filter p (y ∷ ys) x (inr i) e = in-kept x y (filter p ys) (p y) (in-filter p ys x i e)

pub in-unfiltered : {A : Type 0} (p : A → Bool) (xs : List A) (x : A) → In x (filter p xs) → In x xs
in-unfiltered p [] x i = i
in-unfiltered p (y ∷ ys) x i = go (p y) i (in-unfiltered p ys x)
  where
    go : (b : Bool) → In x (cond b (y ∷ filter p ys) (filter p ys)) → (In x (filter p ys) → In x ys)
        → In x (y ∷ ys)
    go true j later = elim j [ inl e ↦ inl e | inr k ↦ inr (later k) ]
    go false j later = inr (later j)

-- ---- what some or all pass

pub any-in : {A : Type 0} (p : A → Bool) (xs : List A) → list_any p xs ≡ true
    → (x : A) × In x xs × (p x ≡ true)
any-in p [] e = absurd (true≢false (sym e))
any-in p (x ∷ xs) e =
    by_test (p x) (λ y. (x, inl refl, y))
    (λ y. let r = any-in p xs (rw y at e) in (r.0, inr r.1, r.2))

pub in-any : {A : Type 0} (p : A → Bool) (xs : List A) (x : A) → In x xs → p x ≡ true
    → list_any p xs ≡ true
in-any p [] x i e = absurd i
in-any p (y ∷ ys) x (inl same) e = rw (ap p (sym same) ∙ e) refl
in-any p (y ∷ ys) x (inr i) e = by_test (p y) (λ t. rw t refl) (λ t. rw t (in-any p ys x i e))

pub all-in : {A : Type 0} (p : A → Bool) (xs : List A) → list_all p xs ≡ true → (x : A) → In x xs
    → p x ≡ true
all-in p [] e x i = absurd i
all-in p (y ∷ ys) e x i =
    by_test (p y)
    (λ t. elim i [ inl same ↦ ap p same ∙ t | inr j ↦ all-in p ys (rw t at e) x j ])
    (λ t. absurd (true≢false (sym (rw t at e))))

-- ---- cases of a sum

pub by_sum : {A B P : Type 0} → A ⊎ B → (A → P) → (B → P) → P
by_sum (inl a) f g = f a
by_sum (inr b) f g = g b
