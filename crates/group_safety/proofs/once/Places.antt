-- Lists without two equal places, and the older ends of a list.
use Rattle.std.proofs.Common.{◌≡◌, ◌≢◌, refl, sym, ap, ◌∙◌, subst, inl, inr, List, [], ◌∷◌}
use Rattle.std.proofs.Common.{map}
use Rattle.std.specs.Prelude.{◌⊎◌}
use Rattle.lan_base.specs.Differing.{DiffersFrom, AllDiffer}
use Rattle.group_safety.proofs.Members.{In, in-map, in-from_map}

-- one list is the other without some of its newest entries
abbrev pub IsTail : {A : Type 0} → List A → List A → Type 0
IsTail as' [] = as' ≡ []
IsTail as' (b ∷ bs) = (as' ≡ b ∷ bs) ⊎ IsTail as' bs

pub differs-in : {X : Type 0} (x y : X) (ys : List X) → DiffersFrom x ys → In y ys → x ≢ y
differs-in x y [] d h = elim h [ ]
differs-in x y (z ∷ zs) d (inl e) = λ same. d.0 (same ∙ e)
differs-in x y (z ∷ zs) d (inr h) = differs-in x y zs d.1 h

pub differs-from : {X : Type 0} (x : X) (ys : List X) → ¬ (In x ys) → DiffersFrom x ys
differs-from x [] free = tt
differs-from x (y ∷ ys) free = (λ e. free (inl e), differs-from x ys (λ h. free (inr h)))

-- two entries that agree in what no two places agree in are the same
pub same-place : {X Y : Type 0} (f : X → Y) (xs : List X) → AllDiffer (map f xs) → (x y : X)
    → In x xs → In y xs → f x ≡ f y → x ≡ y
same-place f [] d x y h k e = elim h [ ]
same-place f (z ∷ zs) d x y (inl p) (inl q) e = p ∙ sym q
same-place f (z ∷ zs) d x y (inl p) (inr k) e =
    absurd (differs-in (f z) (f y) (map f zs) d.0 (in-map f zs y k) (ap f (sym p) ∙ e))
same-place f (z ∷ zs) d x y (inr h) (inl q) e =
    absurd (differs-in (f z) (f x) (map f zs) d.0 (in-map f zs x h) (ap f (sym q) ∙ sym e))
same-place f (z ∷ zs) d x y (inr h) (inr k) e = same-place f zs d.1 x y h k e

-- where what agrees in one respect agrees in another, and nothing agrees in that one
pub differ-by : {X Y Z : Type 0} (f : X → Y) (g : X → Z) (xs : List X)
    → ((x y : X) → In x xs → In y xs → f x ≡ f y → g x ≡ g y)
    → AllDiffer (map g xs) → AllDiffer (map f xs)
differ-by f g [] h d = tt
differ-by f g (x ∷ xs) h d =
    (differs-from (f x) (map f xs) no, differ-by f g xs (λ a b i j e. h a b (inr i) (inr j) e) d.1)
  where
    no : ¬ (In (f x) (map f xs))
    no i = let r = in-from_map f xs (f x) i in
        differs-in (g x) (g r.0) (map g xs) d.0 (in-map g xs r.0 r.1)
        (h x r.0 (inl refl) (inr r.1) r.2)

pub in-tail : {X : Type 0} (xs ys : List X) (x : X) → IsTail xs ys → In x xs → In x ys
in-tail xs [] x t h = subst (λ w. In x w) t h
in-tail xs (y ∷ ys) x (inl e) h = subst (λ w. In x w) e h
in-tail xs (y ∷ ys) x (inr t) h = inr (in-tail xs ys x t h)

pub tail-itself : {X : Type 0} (xs : List X) → IsTail xs xs
tail-itself [] = refl
tail-itself (x ∷ xs) = inl refl
