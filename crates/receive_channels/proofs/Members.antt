-- What stands in a list, by recursion over it, as the proofs take it apart: the same as std's `Contains`, of
-- which the definitions speak. And lists in which nothing stands twice.
use Rattle.std.proofs.Common.{◌≡◌, ◌≢◌, ◌⊎◌, ◌∙◌, inl, inr, ℕ, zero, suc, ◌<◌, List, [], ◌∷◌, ◌++◌, map, filter, take, drop, length, refl, ap, sym, arith, Bool, true, false, cond, ◌&&◌, true≢false}
use Rattle.std.specs.Prelude.{Contains, slice_index_or}
use Rattle.std.specs.List.{list_all, list_any}
use Rattle.lan_base.specs.Differing.{AllDiffer, DiffersFrom}

abbrev pub In : {A : Type 0} → A → List A → Type 0
In a [] = ⊥
In a (b ∷ bs) = (a ≡ b) ⊎ In a bs

-- ---- tests

pub by_test : {P : Type 0} (b : Bool) → (b ≡ true → P) → (b ≡ false → P) → P
by_test true f g = f refl
by_test false f g = g refl

pub never : {P : Type 0} {b : Bool} → b ≡ true → b ≡ false → P
never t f = absurd (true≢false (sym t ∙ f))

-- two tests that imply each other are the same
pub same_tests : (a b : Bool) → (a ≡ true → b ≡ true) → (b ≡ true → a ≡ true) → a ≡ b
same_tests true b f g = sym (f refl)
same_tests false true f g = g refl
same_tests false false f g = refl

-- ---- the same as to be contained

at-in : {A : Type 0} (xs : List A) (x : A) (k : ℕ) → k < length xs → slice_index_or xs k x ≡ x → In x xs
at-in [] x k less is = absurd (omega arith)
at-in (y ∷ ys) x zero less is = inl (sym is)
at-in (y ∷ ys) x (suc k) less is = inr (at-in ys x k (omega arith) is)

pub contains-in : {A : Type 0} (xs : List A) (x : A) → Contains xs x → In x xs
contains-in xs x (k, less, is) = at-in xs x k less is

pub in-contains : {A : Type 0} (xs : List A) (x : A) → In x xs → Contains xs x
in-contains [] x i = absurd i
in-contains (y ∷ ys) x (inl e) = (0, omega arith, sym e)
in-contains (y ∷ ys) x (inr i) =
    let at = in-contains ys x i in let less = at.1 in (suc at.0, omega (arith, less), at.2)

-- ---- lists that are joined, mapped or filtered

pub in-left : {A : Type 0} (xs ys : List A) (x : A) → In x xs → In x (xs ++ ys)
in-left [] ys x i = absurd i
in-left (y ∷ xs) ys x (inl e) = inl e
in-left (y ∷ xs) ys x (inr i) = inr (in-left xs ys x i)

pub in-right : {A : Type 0} (xs ys : List A) (x : A) → In x ys → In x (xs ++ ys)
in-right [] ys x i = i
in-right (y ∷ xs) ys x i = inr (in-right xs ys x i)

pub in-either : {A : Type 0} (xs ys : List A) (x : A) → In x (xs ++ ys) → In x xs ⊎ In x ys
in-either [] ys x i = inr i
in-either (y ∷ xs) ys x (inl e) = inl (inl e)
in-either (y ∷ xs) ys x (inr i) =
    elim (in-either xs ys x i) [ inl j ↦ inl (inr j) | inr j ↦ inr j ]

pub in-map : {A B : Type 0} (f : A → B) (xs : List A) (x : A) → In x xs → In (f x) (map f xs)
in-map f [] x i = absurd i
in-map f (y ∷ ys) x (inl e) = inl (ap f e)
in-map f (y ∷ ys) x (inr i) = inr (in-map f ys x i)

pub in-from_map : {A B : Type 0} (f : A → B) (xs : List A) (y : B) → In y (map f xs)
    → (x : A) × In x xs × (y ≡ f x)
in-from_map f [] y i = absurd i
in-from_map f (x ∷ xs) y (inl e) = (x, inl refl, e)
in-from_map f (x ∷ xs) y (inr i) = let r = in-from_map f xs y i in (r.0, inr r.1, r.2)

in-kept : {A : Type 0} (x y : A) (ys : List A) (b : Bool) → In x ys → In x (cond b (y ∷ ys) ys)
in-kept x y ys true i = inr i
in-kept x y ys false i = i

pub in-filter : {A : Type 0} (p : A → Bool) (xs : List A) (x : A) → In x xs → p x ≡ true → In x (filter p xs)
in-filter p [] x i e = absurd i
in-filter p (y ∷ ys) x (inl same) e = rw (ap p (sym same) ∙ e) (inl same)
in-filter p (y ∷ ys) x (inr i) e = in-kept x y (filter p ys) (p y) (in-filter p ys x i e)

-- what is kept stood there, and passes
pub in-kept_by : {A : Type 0} (p : A → Bool) (xs : List A) (x : A) → In x (filter p xs) → In x xs × (p x ≡ true)
in-kept_by p [] x i = absurd i
in-kept_by p (y ∷ ys) x i = go (p y) refl i (in-kept_by p ys x)
  where
    go : (b : Bool) → p y ≡ b → In x (cond b (y ∷ filter p ys) (filter p ys))
        → (In x (filter p ys) → In x ys × (p x ≡ true)) → In x (y ∷ ys) × (p x ≡ true)
    go true e j later =
        elim j [ inl same ↦ (inl same, ap p same ∙ e) | inr k ↦ let r = later k in (inr r.0, r.1) ]
    go false e j later = let r = later j in (inr r.0, r.1)

-- ---- what some or all pass

pub any-in : {A : Type 0} (p : A → Bool) (xs : List A) → list_any p xs ≡ true → (x : A) × In x xs × (p x ≡ true)
any-in p [] e = absurd (true≢false (sym e))
any-in p (x ∷ xs) e =
    by_test (p x) (λ y. (x, inl refl, y))
    (λ y. let r = any-in p xs (rw y at e) in (r.0, inr r.1, r.2))

pub in-any : {A : Type 0} (p : A → Bool) (xs : List A) (x : A) → In x xs → p x ≡ true → list_any p xs ≡ true
in-any p [] x i e = absurd i
in-any p (y ∷ ys) x (inl same) e = rw (ap p (sym same) ∙ e) refl
in-any p (y ∷ ys) x (inr i) e = by_test (p y) (λ t. rw t refl) (λ t. rw t (in-any p ys x i e))

-- where one fails, not all pass
pub in-all : {A : Type 0} (p : A → Bool) (xs : List A) (x : A) → In x xs → p x ≡ false → list_all p xs ≡ false
in-all p [] x i e = absurd i
in-all p (y ∷ ys) x (inl same) e = rw (ap p (sym same) ∙ e) refl
in-all p (y ∷ ys) x (inr i) e = by_test (p y) (λ t. rw t (in-all p ys x i e)) (λ t. rw t refl)

-- ---- lists that a filter or a map leaves

pub keeps-none : {A : Type 0} (p : A → Bool) (xs : List A) → ((x : A) → In x xs → p x ≡ false) → filter p xs ≡ []
keeps-none p [] fails = refl
keeps-none p (x ∷ xs) fails =
    rw (fails x (inl refl)) (keeps-none p xs (λ y i. fails y (inr i)))

pub keeps-all : {A : Type 0} (p : A → Bool) (xs : List A) → ((x : A) → In x xs → p x ≡ true) → filter p xs ≡ xs
keeps-all p [] passes = refl
keeps-all p (x ∷ xs) passes =
    rw (passes x (inl refl)) (ap (λ rest. x ∷ rest) (keeps-all p xs (λ y i. passes y (inr i))))

pub keeps-same : {A : Type 0} (p q : A → Bool) (xs : List A) → ((x : A) → In x xs → p x ≡ q x)
    → filter p xs ≡ filter q xs
keeps-same p q [] same = refl
keeps-same p q (x ∷ xs) same =
    ap (λ b. cond b (x ∷ filter p xs) (filter p xs)) (same x (inl refl))
    ∙ ap (λ rest. cond (q x) (x ∷ rest) rest) (keeps-same p q xs (λ y i. same y (inr i)))

-- what passes two tests passes the second among what passes the first
pub keeps-both : {A : Type 0} (p q : A → Bool) (xs : List A)
    → filter (λ x. p x && q x) xs ≡ filter q (filter p xs)
keeps-both p q [] = refl
keeps-both p q (x ∷ xs) =
    by_test (p x)
    (λ t. rw t (ap (λ rest. cond (q x) (x ∷ rest) rest) (keeps-both p q xs)))
    (λ f. rw f (keeps-both p q xs))

pub maps-same : {A : Type 0} (f : A → A) (xs : List A) → ((x : A) → In x xs → f x ≡ x) → map f xs ≡ xs
maps-same f [] same = refl
maps-same f (x ∷ xs) same =
    ap (λ y. y ∷ map f xs) (same x (inl refl))
    ∙ ap (λ rest. x ∷ rest) (maps-same f xs (λ y i. same y (inr i)))

pub filter-joined : {A : Type 0} (p : A → Bool) (xs ys : List A) → filter p (xs ++ ys) ≡ filter p xs ++ filter p ys
filter-joined p [] ys = refl
filter-joined p (x ∷ xs) ys =
    by_test (p x)
    (λ t. rw t (ap (λ rest. x ∷ rest) (filter-joined p xs ys)))
    (λ f. rw f (filter-joined p xs ys))

pub take-none : {A : Type 0} (n : ℕ) (xs : List A) → xs ≡ [] → take n xs ≡ []
take-none zero xs e = refl
take-none (suc n) [] e = refl
take-none (suc n) (x ∷ xs) e = absurd cc

pub drop-none : {A : Type 0} (n : ℕ) (xs : List A) → xs ≡ [] → drop n xs ≡ xs
drop-none zero xs e = refl
drop-none (suc n) [] e = refl
drop-none (suc n) (x ∷ xs) e = absurd cc

pub in-take : {A : Type 0} (n : ℕ) (xs : List A) (x : A) → In x (take n xs) → In x xs
in-take zero xs x i = absurd i
in-take (suc n) [] x i = absurd i
in-take (suc n) (y ∷ ys) x (inl e) = inl e
in-take (suc n) (y ∷ ys) x (inr i) = inr (in-take n ys x i)

pub take-drop : {A : Type 0} (n : ℕ) (xs : List A) → xs ≡ take n xs ++ drop n xs
take-drop zero xs = refl
take-drop (suc n) [] = refl
take-drop (suc n) (x ∷ xs) = ap (λ rest. x ∷ rest) (take-drop n xs)

-- ---- nothing stands twice

pub differs-in : {A : Type 0} (a b : A) (xs : List A) → DiffersFrom a xs → In b xs → a ≢ b
differs-in a b [] d h = absurd h
differs-in a b (x ∷ xs) (d, more) (inl e) = λ same. d (same ∙ e)
differs-in a b (x ∷ xs) (d, more) (inr h) = differs-in a b xs more h

differs-from : {A : Type 0} (a : A) (xs : List A) → ((b : A) → In b xs → a ≢ b) → DiffersFrom a xs
differs-from a [] away = tt
differs-from a (x ∷ xs) away = (away x (inl refl), differs-from a xs (λ b h. away b (inr h)))

differs-both : {A : Type 0} (a : A) (xs ys : List A) → DiffersFrom a xs → DiffersFrom a ys → DiffersFrom a (xs ++ ys)
differs-both a [] ys d e = e
differs-both a (x ∷ xs) ys (d, more) e = (d, differs-both a xs ys more e)

pub all-both : {A : Type 0} (xs ys : List A) → AllDiffer xs → AllDiffer ys
    → ((a b : A) → In a xs → In b ys → a ≢ b) → AllDiffer (xs ++ ys)
all-both [] ys d e away = e
all-both (x ∷ xs) ys (d, more) e away = (
  differs-both x xs ys d (differs-from x ys (λ b k. away x b (inl refl) k)),
  all-both xs ys more e (λ a b h k. away a b (inr h) k),
)

-- of two parts of a list each has what the other has not
pub all-apart : {A : Type 0} (xs ys : List A) (a b : A) → AllDiffer (xs ++ ys) → In a xs → In b ys → a ≢ b
all-apart [] ys a b d h k = absurd h
all-apart (x ∷ xs) ys a b (d, more) (inl e) k =
    λ same. differs-in x b (xs ++ ys) d (in-right xs ys b k) (sym e ∙ same)
all-apart (x ∷ xs) ys a b (d, more) (inr h) k = all-apart xs ys a b more h k

pub all-filter : {A : Type 0} (p : A → Bool) (xs : List A) → AllDiffer xs → AllDiffer (filter p xs)
all-filter p [] d = tt
all-filter p (x ∷ xs) (d, more) =
    by_test (p x)
    (λ t. rw t (differs-from x (filter p xs) (λ b i. differs-in x b xs d (in-kept_by p xs b i).0), all-filter p xs more))
    (λ f. rw f (all-filter p xs more))

pub all-take : {A : Type 0} (n : ℕ) (xs : List A) → AllDiffer xs → AllDiffer (take n xs)
all-take zero xs d = tt
all-take (suc n) [] d = tt
all-take (suc n) (x ∷ xs) (d, more) =
    (differs-from x (take n xs) (λ b i. differs-in x b xs d (in-take n xs b i)), all-take n xs more)

-- of those that a filter keeps, too, by what a function gives
pub all-kept : {A B : Type 0} (f : A → B) (p : A → Bool) (xs : List A) → AllDiffer (map f xs)
    → AllDiffer (map f (filter p xs))
all-kept f p [] d = tt
all-kept f p (x ∷ xs) (d, more) =
    by_test (p x)
    (λ t. rw t (differs-from (f x) (map f (filter p xs)) (away t), all-kept f p xs more))
    (λ e. rw e (all-kept f p xs more))
  where
    away : p x ≡ true → (b : _) → In b (map f (filter p xs)) → f x ≢ b
    away t b i =
        let y = in-from_map f (filter p xs) b i in
        let kept = in-kept_by p xs y.0 y.1 in
        λ same. differs-in (f x) (f y.0) (map f xs) d (in-map f xs y.0 kept.0) (same ∙ y.2)

-- where one function tells values apart, another does that tells at least as much
pub all-told : {A B C : Type 0} (f : A → B) (g : A → C) (xs : List A) → ((x y : A) → g x ≡ g y → f x ≡ f y)
    → AllDiffer (map f xs) → AllDiffer (map g xs)
all-told f g [] tells d = tt
all-told f g (x ∷ xs) tells (d, more) =
    (differs-from (g x) (map g xs) (away d), all-told f g xs tells more)
  where
    away : DiffersFrom (f x) (map f xs) → (c : _) → In c (map g xs) → g x ≢ c
    away d c i =
        let y = in-from_map g xs c i in
        λ same. differs-in (f x) (f y.0) (map f xs) d (in-map f xs y.0 y.1) (tells x y.0 (same ∙ y.2))

-- two that a function gives the same are one
pub all-one : {A B : Type 0} (f : A → B) (xs : List A) (x y : A) → AllDiffer (map f xs) → In x xs → In y xs
    → f x ≡ f y → x ≡ y
all-one f [] x y d i j same = absurd i
all-one f (z ∷ zs) x y (d, more) (inl e) (inl e') same = e ∙ sym e'
all-one f (z ∷ zs) x y (d, more) (inl e) (inr j) same =
    absurd (differs-in (f z) (f y) (map f zs) d (in-map f zs y j) (sym (ap f e) ∙ same))
all-one f (z ∷ zs) x y (d, more) (inr i) (inl e) same =
    absurd (differs-in (f z) (f x) (map f zs) d (in-map f zs x i) (sym (ap f e) ∙ sym same))
all-one f (z ∷ zs) x y (d, more) (inr i) (inr j) same = all-one f zs x y more i j same

-- one more, put in between
differs-left : {A : Type 0} (a : A) (xs ys : List A) → DiffersFrom a (xs ++ ys) → DiffersFrom a xs
differs-left a [] ys d = tt
differs-left a (x ∷ xs) ys (d, more) = (d, differs-left a xs ys more)

put-differs : {A : Type 0} (a x : A) (ys zs : List A) → a ≢ x → DiffersFrom a (ys ++ zs)
    → DiffersFrom a (ys ++ x ∷ zs)
put-differs a x [] zs d others = (d, others)
put-differs a x (y ∷ ys) zs d (e, others) = (e, put-differs a x ys zs d others)

pub all-put : {A : Type 0} (x : A) (ys zs : List A) → ((b : A) → In b (ys ++ zs) → x ≢ b)
    → AllDiffer (ys ++ zs) → AllDiffer (ys ++ x ∷ zs)
all-put x [] zs away all = (differs-from x zs away, all)
all-put x (y ∷ ys) zs away (f, all) =
    (put-differs y x ys zs (λ s. away y (inl refl) (sym s)) f, all-put x ys zs (λ b i. away b (inr i)) all)
