-- Numbers that pass a test, the greatest first.
use Rattle.std.proofs.Common.{◌≡◌, ◌≢◌, ◌∙◌, ◌<◌, ◌≤◌, ◌⊎◌, inl, inr, ℕ, zero, suc, Bool, true, false, cond, List, [], ◌∷◌, ◌++◌, length, refl, sym, ap, subst, arith, append_assoc}
use Rattle.std.specs.Prelude.{◌==◌, ◌||◌, max, Result, Ok, Err, is_ok, OnOk}
use Rattle.std.proofs.lemmas.Bool.{cases_eq, or_from, or_left, or_right, eq-eqb, ne_eqb, lt-ltb, le-ltb}
use Rattle.known_keys.specs.Numbered.{greatest_first}
use Rattle.known_keys.specs.inside.Steps.{with_place}

-- above a number none up to another passes
abbrev pub NoneAbove : (ℕ → Bool) → ℕ → ℕ → Type 0
NoneAbove p j m = (n : ℕ) → j < n → n ≤ m → p n ≡ false

-- what the first number and those behind it are
pub record IsTop (p : ℕ → Bool) (m x : ℕ) (behind : List ℕ) : Type 0 where
  pub below : ℕ
  pub is : x ≡ suc below
  pub within : suc below ≤ m
  pub passes : p (suc below) ≡ true
  pub rest : behind ≡ greatest_first p below
  pub none : NoneAbove p (suc below) m

head-is : {x y : ℕ} {xs ys : List ℕ} → x ∷ xs ≡ y ∷ ys → x ≡ y
head-is e = cc e

tail-is : {x y : ℕ} {xs ys : List ℕ} → x ∷ xs ≡ y ∷ ys → xs ≡ ys
tail-is e = cc e

-- one number more, which does not pass
one-more : (p : ℕ → Bool) (j m : ℕ) → p (suc m) ≡ false → NoneAbove p j m → NoneAbove p j (suc m)
one-more p j m fails none n above most = at (cases_eq n (suc m))
  where
    at : (n ≡ suc m) ⊎ (n ≢ suc m) → p n ≡ false
    at (inl same) = ap p same ∙ fails
    at (inr apart) = none n above (omega (arith, most, apart))

later-top : (p : ℕ → Bool) (m x : ℕ) (behind : List ℕ) → p (suc m) ≡ false → IsTop p m x behind
    → IsTop p (suc m) x behind
later-top p m x behind fails top = let within = top.within in record {
  below = top.below;
  is = top.is;
  within = omega (arith, within);
  passes = top.passes;
  rest = top.rest;
  none = one-more p (suc top.below) m fails top.none;
}

pub top-is : (p : ℕ → Bool) (m x : ℕ) (behind : List ℕ) → x ∷ behind ≡ greatest_first p m → IsTop p m x behind
top-is p zero x behind e = absurd (cc e)
top-is p (suc m) x behind e = go (p (suc m)) refl e (top-is p m x behind)
  where
    go : (b : Bool) → p (suc m) ≡ b → x ∷ behind ≡ cond b (suc m ∷ greatest_first p m) (greatest_first p m)
        → (x ∷ behind ≡ greatest_first p m → IsTop p m x behind) → IsTop p (suc m) x behind
    go true passes is before = record {
      below = m;
      is = head-is is;
      within = omega arith;
      passes = passes;
      rest = tail-is is;
      none = λ n above most. absurd (omega (arith, above, most));
    }
    go false fails is before = later-top p m x behind fails (before is)

-- where none passes above a number, those up to another are those up to it
pub skip : (p : ℕ → Bool) (j m : ℕ) → j ≤ m → NoneAbove p j m → greatest_first p m ≡ greatest_first p j
skip p j zero less none = let same : zero ≡ j = omega (arith, less) in ap (λ n. greatest_first p n) same
skip p j (suc m) less none = go (cases_eq (suc m) j) (skip p j m)
  where
    go : (suc m ≡ j) ⊎ (suc m ≢ j) → (j ≤ m → NoneAbove p j m → greatest_first p m ≡ greatest_first p j)
        → greatest_first p (suc m) ≡ greatest_first p j
    go (inl same) before = ap (λ n. greatest_first p n) same
    go (inr apart) before =
        let near : j ≤ m = omega (arith, less, apart) in
        let fails : p (suc m) ≡ false = none (suc m) (omega (arith, near)) (omega arith) in
        ap (λ b. cond b (suc m ∷ greatest_first p m) (greatest_first p m)) fails
        ∙ before near (λ n above most. none n above (omega (arith, most)))

-- the first that passes, and those behind it
pub down : (p : ℕ → Bool) (y m : ℕ) → suc y ≤ m → p (suc y) ≡ true → NoneAbove p (suc y) m
    → greatest_first p m ≡ suc y ∷ greatest_first p y
down p y m within passes none =
    skip p (suc y) m within none
    ∙ ap (λ b. cond b (suc y ∷ greatest_first p y) (greatest_first p y)) passes

-- none passes
pub none-of : (p : ℕ → Bool) (m : ℕ) → [] ≡ greatest_first p m → NoneAbove p 0 m
none-of p zero e = λ n above most. absurd (omega (arith, above, most))
none-of p (suc m) e = go (p (suc m)) refl e (none-of p m)
  where
    go : (b : Bool) → p (suc m) ≡ b → [] ≡ cond b (suc m ∷ greatest_first p m) (greatest_first p m)
        → ([] ≡ greatest_first p m → NoneAbove p 0 m) → NoneAbove p 0 (suc m)
    go true passes is before = absurd (cc is)
    go false fails is before = one-more p 0 m fails (before is)

-- two tests that agree as far as k pass the same numbers
pub same-below : (p q : ℕ → Bool) (k : ℕ) → ((n : ℕ) → 0 < n → n ≤ k → p n ≡ q n)
    → greatest_first p k ≡ greatest_first q k
same-below p q zero same = refl
same-below p q (suc k) same =
    ap (λ b. cond b (suc k ∷ greatest_first p k) (greatest_first p k)) (same (suc k) (omega arith) (omega arith))
    ∙ ap (λ ns. cond (q (suc k)) (suc k ∷ ns) ns)
    (same-below p q k (λ n above most. same n above (omega (arith, most))))

pub grows : (p : ℕ → Bool) (k : ℕ) → p (suc k) ≡ false → greatest_first p (suc k) ≡ greatest_first p k
grows p k fails = ap (λ b. cond b (suc k ∷ greatest_first p k) (greatest_first p k)) fails

-- ---- both of two tests

module _ (p q : ℕ → Bool) where
  abbrev pub either : ℕ → Bool
  either n = p n || q n

  either-none : (j m : ℕ) → NoneAbove p j m → NoneAbove q j m → NoneAbove either j m
  either-none j m one other n above most = or_from (p n) (q n) (one n above most) (other n above most)

  pub one-empty : (m : ℕ) → [] ≡ greatest_first p m → greatest_first either m ≡ greatest_first q m
  one-empty m e = same-below either q m (λ n above most.
      ap (λ b. b || q n) (none-of p m e n above most))

  pub other-empty : (m : ℕ) → [] ≡ greatest_first q m → greatest_first either m ≡ greatest_first p m
  other-empty m e = same-below either p m (λ n above most.
      ap (λ b. p n || b) (none-of q m e n above most) ∙ or-false (p n))
    where
      or-false : (b : Bool) → (b || false) ≡ b
      or-false true = refl
      or-false false = refl

  -- two lists of those that pass up to a number, and what stands before them
  pub record IsLeft (one other sofar : List ℕ) (front : List ℕ) (k : ℕ) : Type 0 where
    pub most : ℕ
    pub first : one ≡ greatest_first p most
    pub second : other ≡ greatest_first q most
    pub all : sofar ++ greatest_first either most ≡ front ++ greatest_first either k

  moved : (front sofar : List ℕ) (x y m k : ℕ) → x ≡ suc y → greatest_first either m ≡ suc y ∷ greatest_first either y
      → sofar ++ greatest_first either m ≡ front ++ greatest_first either k
      → (sofar ++ x ∷ []) ++ greatest_first either y ≡ front ++ greatest_first either k
  moved front sofar x y m k is split all =
      append_assoc sofar (x ∷ []) (greatest_first either y)
      ∙ ap (λ z. sofar ++ z ∷ greatest_first either y) is
      ∙ ap (λ ns. sofar ++ ns) (sym split) ∙ all

  -- the greater of both is the next one
  pub first-next : (front sofar : List ℕ) (a b k : ℕ) (behind_a behind_b : List ℕ)
      → IsLeft (a ∷ behind_a) (b ∷ behind_b) sofar front k → b < a
      → IsLeft behind_a (b ∷ behind_b) (sofar ++ a ∷ []) front k
  first-next front sofar a b k behind_a behind_b left less =
      let one = top-is p left.most a behind_a left.first in
      let other = top-is q left.most b behind_b left.second in
      let within = one.within in
      let is = one.is in
      let at = other.is in
      let clear : NoneAbove q one.below left.most =
      λ n above most. other.none n (omega (arith, above, less, is, at)) most in
      record {
        most = one.below;
        first = one.rest;
        second = left.second ∙ skip q one.below left.most (omega (arith, within)) clear;
        all = moved front sofar a one.below left.most k is
            (down either one.below left.most within (or_left (p (suc one.below)) (q (suc one.below)) one.passes)
            (either-none (suc one.below) left.most one.none (λ n above most. clear n (omega (arith, above)) most)))
            left.all;
      }

  pub second-next : (front sofar : List ℕ) (a b k : ℕ) (behind_a behind_b : List ℕ)
      → IsLeft (a ∷ behind_a) (b ∷ behind_b) sofar front k → a < b
      → IsLeft (a ∷ behind_a) behind_b (sofar ++ b ∷ []) front k
  second-next front sofar a b k behind_a behind_b left less =
      let one = top-is p left.most a behind_a left.first in
      let other = top-is q left.most b behind_b left.second in
      let within = other.within in
      let is = one.is in
      let at = other.is in
      let clear : NoneAbove p other.below left.most =
      λ n above most. one.none n (omega (arith, above, less, is, at)) most in
      record {
        most = other.below;
        first = left.first ∙ skip p other.below left.most (omega (arith, within)) clear;
        second = other.rest;
        all = moved front sofar b other.below left.most k at
            (down either other.below left.most within (or_right (p (suc other.below)) (q (suc other.below)) other.passes)
            (either-none (suc other.below) left.most (λ n above most. clear n (omega (arith, above)) most) other.none))
            left.all;
      }

  pub both-next : (front sofar : List ℕ) (a b k : ℕ) (behind_a behind_b : List ℕ)
      → IsLeft (a ∷ behind_a) (b ∷ behind_b) sofar front k → a ≡ b
      → IsLeft behind_a behind_b (sofar ++ a ∷ []) front k
  both-next front sofar a b k behind_a behind_b left same =
      let one = top-is p left.most a behind_a left.first in
      let other = top-is q left.most b behind_b left.second in
      let within = one.within in
      let is = one.is in
      let at = other.is in
      let level : other.below ≡ one.below = omega (arith, is, at, same) in
      record {
        most = one.below;
        first = one.rest;
        second = other.rest ∙ ap (λ n. greatest_first q n) level;
        all = moved front sofar a one.below left.most k is
            (down either one.below left.most within (or_left (p (suc one.below)) (q (suc one.below)) one.passes)
            (either-none (suc one.below) left.most one.none (λ n above most. other.none n (omega (arith, above, level)) most)))
            left.all;
      }

  -- what is left of two lists, told by the first number of each and the numbers behind it
  parts : (front sofar one other : List ℕ) (a b k : ℕ) (behind_a behind_b : List ℕ)
      → IsLeft one other sofar front k → one ≡ a ∷ behind_a → other ≡ b ∷ behind_b
      → IsLeft (a ∷ behind_a) (b ∷ behind_b) sofar front k
  parts front sofar one other a b k behind_a behind_b left e f =
      subst (λ (ys : List ℕ). IsLeft (a ∷ behind_a) ys sofar front k) f
      (subst (λ (xs : List ℕ). IsLeft xs other sofar front k) e left)

  pub step-first : (front sofar then one other : List ℕ) (a b k : ℕ) (behind_a behind_b : List ℕ)
      → IsLeft one other sofar front k → one ≡ a ∷ behind_a → other ≡ b ∷ behind_b → b < a
      → then ≡ sofar ++ a ∷ [] → IsLeft behind_a other then front k
  step-first front sofar then one other a b k behind_a behind_b left e f less is =
      subst (λ (ys : List ℕ). IsLeft behind_a ys then front k) (sym f)
      (subst (λ (xs : List ℕ). IsLeft behind_a (b ∷ behind_b) xs front k) (sym is)
      (first-next front sofar a b k behind_a behind_b (parts front sofar one other a b k behind_a behind_b left e f) less))

  pub step-second : (front sofar then one other : List ℕ) (a b k : ℕ) (behind_a behind_b : List ℕ)
      → IsLeft one other sofar front k → one ≡ a ∷ behind_a → other ≡ b ∷ behind_b → a < b
      → then ≡ sofar ++ b ∷ [] → IsLeft one behind_b then front k
  step-second front sofar then one other a b k behind_a behind_b left e f less is =
      subst (λ (ys : List ℕ). IsLeft ys behind_b then front k) (sym e)
      (subst (λ (xs : List ℕ). IsLeft (a ∷ behind_a) behind_b xs front k) (sym is)
      (second-next front sofar a b k behind_a behind_b (parts front sofar one other a b k behind_a behind_b left e f) less))

  pub step-both : (front sofar then one other : List ℕ) (a b k : ℕ) (behind_a behind_b : List ℕ)
      → IsLeft one other sofar front k → one ≡ a ∷ behind_a → other ≡ b ∷ behind_b → a ≡ b
      → then ≡ sofar ++ a ∷ [] → IsLeft behind_a behind_b then front k
  step-both front sofar then one other a b k behind_a behind_b left e f same is =
      subst (λ (xs : List ℕ). IsLeft behind_a behind_b xs front k) (sym is)
      (both-next front sofar a b k behind_a behind_b (parts front sofar one other a b k behind_a behind_b left e f) same)

  -- the one or the other list has ended
  pub first-ended : (front sofar one other : List ℕ) (k : ℕ) → IsLeft one other sofar front k → length one ≡ 0
      → sofar ++ other ≡ front ++ greatest_first either k
  first-ended front sofar [] other k left none =
      ap (λ (ns : List ℕ). sofar ++ ns) (left.second ∙ sym (one-empty left.most left.first)) ∙ left.all
  first-ended front sofar (x ∷ xs) other k left none = absurd (omega (arith, none))

  pub second-ended : (front sofar one other : List ℕ) (k : ℕ) → IsLeft one other sofar front k → length other ≡ 0
      → sofar ++ one ≡ front ++ greatest_first either k
  second-ended front sofar one [] k left none =
      ap (λ (ns : List ℕ). sofar ++ ns) (left.first ∙ sym (other-empty left.most left.second)) ∙ left.all
  second-ended front sofar one (x ∷ xs) k left none = absurd (omega (arith, none))

pub on_extended : {E : Type 0} (r : Result (Unit {0}) E) (old new more whole : List ℕ)
    → new ≡ cond (is_ok r) (old ++ more) old → old ++ more ≡ whole → OnOk r (new ≡ whole)
on_extended (Ok u) old new more whole e is = e ∙ is
on_extended (Err error) old new more whole e is = tt

-- ---- a number more

place-top : (n : ℕ) (p : ℕ → Bool) (k : ℕ) → k < n → with_place n (greatest_first p k) ≡ n ∷ greatest_first p k
place-top n p zero less = refl
place-top n p (suc k) less = go (p (suc k)) (place-top n p k)
  where
    go : (b : Bool) → (k < n → with_place n (greatest_first p k) ≡ n ∷ greatest_first p k)
        → with_place n (cond b (suc k ∷ greatest_first p k) (greatest_first p k))
        ≡ n ∷ cond b (suc k ∷ greatest_first p k) (greatest_first p k)
    go true _ =
        ap (λ b. cond b (suc k ∷ with_place n (greatest_first p k))
        (cond (suc k == n) (suc k ∷ greatest_first p k) (n ∷ suc k ∷ greatest_first p k)))
        (le-ltb n (suc k) (omega (arith, less)))
        ∙ ap (λ b. cond b (suc k ∷ greatest_first p k) (n ∷ suc k ∷ greatest_first p k))
        (ne_eqb (suc k) n (λ e. omega (arith, e, less)))
    go false before = before (omega (arith, less))

abbrev pub or_this : ℕ → (ℕ → Bool) → ℕ → Bool
or_this n p m = (n == m) || p m

pub placed : (n : ℕ) (p : ℕ → Bool) (k : ℕ) → 0 < n → n ≤ k
    → with_place n (greatest_first p k) ≡ greatest_first (or_this n p) k
placed n p zero above most = absurd (omega (arith, above, most))
placed n p (suc k) above most = by (cases_eq n (suc k)) (placed n p k)
  where
    others : (j : ℕ) → j < n → greatest_first p j ≡ greatest_first (or_this n p) j
    others j less = same-below p (or_this n p) j (λ m low high.
        sym (ap (λ b. b || p m) (ne_eqb n m (λ e. omega (arith, e, high, less)))))

    here : n ≡ suc k → (b : Bool) → p (suc k) ≡ b
        → with_place n (cond b (suc k ∷ greatest_first p k) (greatest_first p k))
        ≡ suc k ∷ greatest_first p k
    here same true _ =
        ap (λ b. cond b (suc k ∷ with_place n (greatest_first p k))
        (cond (suc k == n) (suc k ∷ greatest_first p k) (n ∷ suc k ∷ greatest_first p k)))
        (le-ltb n (suc k) (omega (arith, same)))
        ∙ ap (λ b. cond b (suc k ∷ greatest_first p k) (n ∷ suc k ∷ greatest_first p k))
        (eq-eqb (suc k) n (sym same))
    here same false _ = place-top n p k (omega (arith, same)) ∙ ap (λ m. m ∷ greatest_first p k) same

    lower : n ≤ k → (b : Bool) → p (suc k) ≡ b
        → with_place n (cond b (suc k ∷ greatest_first p k) (greatest_first p k))
        ≡ cond b (suc k ∷ with_place n (greatest_first p k)) (with_place n (greatest_first p k))
    lower less true _ =
        ap (λ b. cond b (suc k ∷ with_place n (greatest_first p k))
        (cond (suc k == n) (suc k ∷ greatest_first p k) (n ∷ suc k ∷ greatest_first p k)))
        (lt-ltb n (suc k) (omega (arith, less)))
    lower less false _ = refl

    by : (n ≡ suc k) ⊎ (n ≢ suc k)
        → (0 < n → n ≤ k → with_place n (greatest_first p k) ≡ greatest_first (or_this n p) k)
        → with_place n (greatest_first p (suc k)) ≡ greatest_first (or_this n p) (suc k)
    by (inl same) before =
        here same (p (suc k)) refl
        ∙ ap (λ ns. suc k ∷ ns) (others k (omega (arith, same)))
        ∙ sym (ap (λ b. cond b (suc k ∷ greatest_first (or_this n p) k) (greatest_first (or_this n p) k))
        (or_left (n == suc k) (p (suc k)) (eq-eqb n (suc k) same)))
    by (inr apart) before =
        let less : n ≤ k = omega (arith, most, apart) in
        lower less (p (suc k)) refl
        ∙ ap (λ ns. cond (p (suc k)) (suc k ∷ ns) ns) (before above less)
        ∙ sym (ap (λ b. cond (b || p (suc k)) (suc k ∷ greatest_first (or_this n p) k) (greatest_first (or_this n p) k))
        (ne_eqb n (suc k) apart))

-- ---- the greater of two

pub greater-first : (a b : ℕ) → b < a → max a b ≡ a
greater-first a b less = omega (arith, less)

pub greater-second : (a b : ℕ) → a < b → max a b ≡ b
greater-second a b less = omega (arith, less)

pub greater-both : (a b : ℕ) → a ≤ b → b ≤ a → (a ≡ b) × (max a b ≡ a)
greater-both a b less more = (omega (arith, less, more), omega (arith, less, more))
