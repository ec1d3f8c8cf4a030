-- Members and sums over the lists of all views.
use Rattle.std.proofs.Common.{◌≡◌, ◌⊎◌, ℕ, zero, suc, ◌+◌, ◌≤◌, Bool, true, false, List, [], ◌∷◌, ◌++◌, set, refl, sym, ap, subst, inl, inr, ⊎_elim, arith}
use mathlib.Core.Option.{some, some-ne-none, some-injective}
use lib.ListN.{get_elem?}
use Rattle.std.proofs.lemmas.Bool.{false≢true}
use Rattle.association_slots.specs.Views.{In, Among, cons_if, weigh, adds, overs, gones, tally}
use Rattle.association_slots.specs.declared.view.Addition.{Addition}
use Rattle.association_slots.specs.declared.view.Mark.{Mark}
use Rattle.association_slots.specs.declared.view.View.{View}

module _ {A : Type 0} where
  pub in_append : (x : A) (xs ys : List A) → In x (xs ++ ys) → In x xs ⊎ In x ys
  in_append x [] ys i = inr i
  in_append x (y ∷ xs) ys i = ⊎_elim (λ e. inl (inl e)) (λ j. ⊎_elim (λ a. inl (inr a)) inr (in_append x xs ys j)) i

  pub in_left : (x : A) (xs ys : List A) → In x xs → In x (xs ++ ys)
  in_left x [] ys i = absurd i
  in_left x (y ∷ xs) ys i = ⊎_elim inl (λ j. inr (in_left x xs ys j)) i

  pub in_right : (x : A) (xs ys : List A) → In x ys → In x (xs ++ ys)
  in_right x [] ys i = i
  in_right x (y ∷ xs) ys i = inr (in_right x xs ys i)

  pub weigh-append : (h : A → ℕ) (xs ys : List A) → weigh h (xs ++ ys) ≡ weigh h xs + weigh h ys
  weigh-append h [] ys = omega arith
  weigh-append h (x ∷ xs) ys = let r = weigh-append h xs ys in omega arith

  pub weigh-set : (h : A → ℕ) (xs : List A) (i : ℕ) (x y : A) → get_elem? xs i ≡ some x → weigh h (set xs i y) + h x ≡ weigh h xs + h y
  weigh-set h [] i x y at = absurd (some-ne-none x (sym at))
  weigh-set h (z ∷ xs) zero x y at = let e : h z ≡ h x = ap h (some-injective z x at) in omega arith
  weigh-set h (z ∷ xs) (suc i) x y at = let r = weigh-set h xs i x y at in omega arith

  pub weigh_at : (h : A → ℕ) (xs : List A) (i : ℕ) (x : A) → get_elem? xs i ≡ some x → h x ≤ weigh h xs
  weigh_at h [] i x at = absurd (some-ne-none x (sym at))
  weigh_at h (z ∷ xs) zero x at = let e : h z ≡ h x = ap h (some-injective z x at) in omega arith
  weigh_at h (z ∷ xs) (suc i) x at = let r = weigh_at h xs i x at in omega arith

  pub weigh_none : (h : A → ℕ) (xs : List A) → ((x : A) → In x xs → h x ≡ 0) → weigh h xs ≡ 0
  weigh_none h [] each = refl
  weigh_none h (x ∷ xs) each = let a = each x (inl refl) in let r = weigh_none h xs (λ y i. each y (inr i)) in omega arith

  pub weigh_mono : (h g : A → ℕ) (xs : List A) → ((x : A) → In x xs → h x ≤ g x) → weigh h xs ≤ weigh g xs
  weigh_mono h g [] each = omega arith
  weigh_mono h g (x ∷ xs) each = let a = each x (inl refl) in let r = weigh_mono h g xs (λ y i. each y (inr i)) in omega arith

  pub weigh_plus : (h g : A → ℕ) (xs : List A) → weigh (λ x. h x + g x) xs ≡ weigh h xs + weigh g xs
  weigh_plus h g [] = refl
  weigh_plus h g (x ∷ xs) = let r = weigh_plus h g xs in omega arith

  module _ (f : View → List A) (x : A) where
    pub among_at : (vs : List View) (i : ℕ) (v : View) → get_elem? vs i ≡ some v → In x (f v) → Among f x vs
    among_at [] i v at m = absurd (some-ne-none v (sym at))
    among_at (w ∷ vs) zero v at m = inl (subst (λ (u : View). In x (f u)) (sym (some-injective w v at)) m)
    among_at (w ∷ vs) (suc i) v at m = inr (among_at vs i v at m)

    pub among_from : (vs : List View) → Among f x vs → (i : ℕ) × (v : View) × (get_elem? vs i ≡ some v) × In x (f v)
    among_from [] m = absurd m
    among_from (w ∷ vs) m = ⊎_elim (λ a. (0, w, refl, a)) (λ b. let r = among_from vs b in (suc r.0, r.1, r.2, r.3)) m

    pub among_set : (vs : List View) (i : ℕ) (w : View) → Among f x (set vs i w) → In x (f w) ⊎ Among f x vs
    among_set [] i w m = absurd m
    among_set (u ∷ vs) zero w m = ⊎_elim inl (λ b. inr (inr b)) m
    among_set (u ∷ vs) (suc i) w m = ⊎_elim (λ a. inr (inl a)) (λ b. ⊎_elim inl (λ c. inr (inr c)) (among_set vs i w b)) m

    pub among_on : (vs : List View) (i : ℕ) (v w : View) → get_elem? vs i ≡ some v → (In x (f v) → In x (f w)) → Among f x vs → Among f x (set vs i w)
    among_on [] i v w at keep m = absurd m
    among_on (u ∷ vs) zero v w at keep m = ⊎_elim (λ a. inl (keep (subst (λ (z : View). In x (f z)) (some-injective u v at) a))) inr m
    among_on (u ∷ vs) (suc i) v w at keep m = ⊎_elim inl (λ b. inr (among_on vs i v w at keep b)) m

    pub among_snoc : (vs : List View) (w : View) → Among f x (vs ++ w ∷ []) → In x (f w) ⊎ Among f x vs
    among_snoc [] w m = ⊎_elim inl (λ b. absurd b) m
    among_snoc (u ∷ vs) w m = ⊎_elim (λ a. inr (inl a)) (λ b. ⊎_elim inl (λ c. inr (inr c)) (among_snoc vs w b)) m

    pub among_longer : (vs ws : List View) → Among f x vs → Among f x (vs ++ ws)
    among_longer [] ws m = absurd m
    among_longer (u ∷ vs) ws m = ⊎_elim inl (λ b. inr (among_longer vs ws b)) m

pub tally_none : (h : Addition → ℕ) (vs : List View) → ((a : Addition) → Among adds a vs → h a ≡ 0) → tally h vs ≡ 0
tally_none h [] each = refl
tally_none h (v ∷ vs) each = let a = weigh_none h (adds v) (λ x i. each x (inl i)) in let r = tally_none h vs (λ x i. each x (inr i)) in omega arith

pub tally_mono : (h g : Addition → ℕ) (vs : List View) → ((a : Addition) → Among adds a vs → h a ≤ g a) → tally h vs ≤ tally g vs
tally_mono h g [] each = omega arith
tally_mono h g (v ∷ vs) each = let a = weigh_mono h g (adds v) (λ x i. each x (inl i)) in let r = tally_mono h g vs (λ x i. each x (inr i)) in omega arith

pub tally_plus : (h g : Addition → ℕ) (vs : List View) → tally (λ a. h a + g a) vs ≡ tally h vs + tally g vs
tally_plus h g [] = refl
tally_plus h g (v ∷ vs) = let a = weigh_plus h g (adds v) in let r = tally_plus h g vs in omega arith

-- No addition and no mark came or went
pub record Moved (vs ws : List View) : Type 0 where
  pub adds_back : (a : Addition) → Among adds a ws → Among adds a vs
  pub overs_back : (m : Mark) → Among overs m ws → Among overs m vs
  pub overs_on : (m : Mark) → Among overs m vs → Among overs m ws
  pub gones_back : (m : Mark) → Among gones m ws → Among gones m vs
  pub gones_on : (m : Mark) → Among gones m vs → Among gones m ws
  pub tallies : (h : Addition → ℕ) → tally h ws ≡ tally h vs

-- one view changed, with these lists as they were
pub moved_set : (vs : List View) (i : ℕ) (v w : View) → get_elem? vs i ≡ some v → adds w ≡ adds v → overs w ≡ overs v → gones w ≡ gones v → Moved vs (set vs i w)
moved_set vs i v w at a o g = record {
  adds_back = λ x m. ⊎_elim (λ b. among_at adds x vs i v at (subst (In x) a b)) (λ b. b) (among_set adds x vs i w m);
  overs_back = λ x m. ⊎_elim (λ b. among_at overs x vs i v at (subst (In x) o b)) (λ b. b) (among_set overs x vs i w m);
  overs_on = λ x m. among_on overs x vs i v w at (subst (In x) (sym o)) m;
  gones_back = λ x m. ⊎_elim (λ b. among_at gones x vs i v at (subst (In x) g b)) (λ b. b) (among_set gones x vs i w m);
  gones_on = λ x m. among_on gones x vs i v w at (subst (In x) (sym g)) m;
  tallies = λ h. let s = weigh-set (λ (u : View). weigh h (adds u)) vs i v w at in let e : weigh h (adds w) ≡ weigh h (adds v) = ap (weigh h) a in omega arith;
}

-- what stands in a list that may have one more in front
pub in_cons_if : {A : Type 0} (b : Bool) (x y : A) (ys : List A) → In y (cons_if b x ys) → ((b ≡ true) × (x ≡ y)) ⊎ In y ys
in_cons_if true x y ys i = ⊎_elim (λ e. inl (refl, e)) inr i
in_cons_if false x y ys i = inr i

pub behind_cons_if : {A : Type 0} (b : Bool) (x y : A) (ys : List A) → In y ys → In y (cons_if b x ys)
behind_cons_if true x y ys i = inr i
behind_cons_if false x y ys i = i

pub at_cons_if : {A : Type 0} (b : Bool) (x : A) (ys : List A) → b ≡ true → In x (cons_if b x ys)
at_cons_if true x ys is = inl refl
at_cons_if false x ys is = absurd (false≢true is)
