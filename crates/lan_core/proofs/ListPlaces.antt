-- Lists, place by place.
use Rattle.std.proofs.Common.{◌≡◌, ◌≢◌, ◌<◌, ℕ, zero, suc, List, [], ◌∷◌, ◌++◌, length, map, drop, Some, None, refl, arith}
use Rattle.std.specs.Prelude.{slice_get, set}

pub set-here : {A : Type 0} (xs : List A) (s : ℕ) (old new : A) → slice_get xs s ≡ Some old
    → slice_get (set xs s new) s ≡ Some new
set-here [] s old new there = absurd (cc there)
set-here (x ∷ xs) zero old new there = refl
set-here (x ∷ xs) (suc s) old new there = set-here xs s old new there

pub set-others : {A : Type 0} (xs : List A) (s t : ℕ) (new : A) → t ≢ s
    → slice_get (set xs s new) t ≡ slice_get xs t
set-others [] s t new differ = refl
set-others (x ∷ xs) zero zero new differ = absurd (differ refl)
set-others (x ∷ xs) zero (suc t) new differ = refl
set-others (x ∷ xs) (suc s) zero new differ = refl
set-others (x ∷ xs) (suc s) (suc t) new differ =
    set-others xs s t new (λ same. differ (omega (arith, same)))

pub last-here : {A : Type 0} (xs : List A) (x : A) → slice_get (xs ++ x ∷ []) (length xs) ≡ Some x
last-here [] x = refl
last-here (y ∷ xs) x = last-here xs x

pub before-last : {A : Type 0} (xs : List A) (x : A) (s : ℕ) → s ≢ length xs
    → slice_get (xs ++ x ∷ []) s ≡ slice_get xs s
before-last [] x zero differ = absurd (differ refl)
before-last [] x (suc s) differ = refl
before-last (y ∷ xs) x zero differ = refl
before-last (y ∷ xs) x (suc s) differ = before-last xs x s (λ same. differ (omega (arith, same)))

-- what stands at a place stands there when more comes
pub stays : {A : Type 0} (xs ys : List A) (s : ℕ) (x : A) → slice_get xs s ≡ Some x
    → slice_get (xs ++ ys) s ≡ Some x
stays [] ys s x there = absurd (cc there)
stays (y ∷ xs) ys zero x there = there
stays (y ∷ xs) ys (suc s) x there = stays xs ys s x there

-- a place below the length has something
pub there-is : {A : Type 0} (xs : List A) (s : ℕ) → s < length xs → (x : A) × (slice_get xs s ≡ Some x)
there-is [] s less = absurd (omega arith)
there-is (x ∷ xs) zero less = (x, refl)
there-is (x ∷ xs) (suc s) less = there-is xs s (omega arith)

-- what stands at a place is in front of what is left from there on
pub front-of : {A : Type 0} (xs : List A) (n : ℕ) (w : A) (ws : List A) → drop n xs ≡ w ∷ ws
    → (slice_get xs n ≡ Some w) × (drop (suc n) xs ≡ ws)
front-of [] zero w ws is = absurd (cc is)
front-of [] (suc n) w ws is = absurd (cc is)
front-of (x ∷ xs) zero w ws is = (cc is, cc is)
front-of (x ∷ xs) (suc n) w ws is = front-of xs n w ws is

-- where nothing is left, nothing stands
pub none-left : {A : Type 0} (xs : List A) (n : ℕ) → drop n xs ≡ [] → slice_get xs n ≡ None
none-left [] n is = refl
none-left (x ∷ xs) zero is = absurd (cc is)
none-left (x ∷ xs) (suc n) is = none-left xs n is

-- a list that maps to one with a front has a front
pub front-mapped : {A B : Type 0} (f : A → B) (xs : List A) (b : B) (bs : List B) → b ∷ bs ≡ map f xs
    → (a : A) × ((rest : List A) × ((xs ≡ a ∷ rest) × (f a ≡ b) × (bs ≡ map f rest)))
front-mapped f [] b bs is = absurd (cc is)
front-mapped f (x ∷ xs) b bs is = (x, (xs, (refl, cc is, cc is)))

pub none-mapped : {A B : Type 0} (f : A → B) (xs : List A) → [] ≡ map f xs → xs ≡ []
none-mapped f [] is = refl
none-mapped f (x ∷ xs) is = absurd (cc is)
