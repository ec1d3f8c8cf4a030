-- What holds of verdicts: there is one, a front's pair stays, and a repetition changes none.
use Rattle.std.proofs.Common.{◌≡◌, ◌≢◌, ◌∙◌, ◌<◌, ◌≤◌, ◌⊎◌, inl, inr, ℕ, Bool, true, false, Option, Some, None, refl, sym, ap, subst, arith}
use Rattle.std.proofs.lemmas.Bool.{cases_lt}
use Rattle.least_pairs.specs.Pairs.{Noted, Breaks, IsJudged, IsOneMore, IsFront}
use Rattle.least_pairs.proofs.Least.{some-same, old-pair, new-pair, found-stays, none-stays}

-- two numbers of which neither is below the other
pub same-pair : (p q : ℕ × ℕ) → p.0 ≡ q.0 → p.1 ≡ q.1 → Some p ≡ Some q
same-pair (a, b) (c, d) first second = rw (first, second) refl

both-below : (a b : ℕ) → a ≤ b → b ≤ a → a ≡ b
both-below a b less more = omega (arith, less, more)

-- at most one verdict holds
pub one-verdict : (Broken : ℕ → ℕ → Type 0) (one other : Option (ℕ × ℕ)) → IsJudged Broken one
    → IsJudged Broken other → one ≡ other
one-verdict Broken None None a b = refl
one-verdict Broken None (Some q) a b = absurd (a q.0 q.1 b.broken)
one-verdict Broken (Some p) None a b = absurd (b p.0 p.1 a.broken)
one-verdict Broken (Some p) (Some q) a b =
    let second : p.1 ≡ q.1 = both-below p.1 q.1 (a.least q.0 q.1 b.broken) (b.least p.0 p.1 a.broken) in
    same-pair p q
    (both-below p.0 q.0
    (a.first q.0 (subst (λ n. Broken q.0 n) (sym second) b.broken))
    (b.first p.0 (subst (λ n. Broken p.0 n) second a.broken)))
    second

module _ (K V : Type 0) (agree : V → V → Bool) where
  pair-same : {p q : K × V} → Some p ≡ Some q → p ≡ q
  pair-same is = some-same is

  -- a pair of the whole within a front is one of the front
  in-front : (end : ℕ) (front whole : Noted K V) → IsFront K V end front whole → (a b : ℕ) → b ≤ end
      → Breaks K V agree whole a b → Breaks K V agree front a b
  in-front end front whole is a b within broken =
      let order = broken.order in
      let near : a ≤ end = omega (arith, order, within) in
      record {
        key = broken.key;
        one = broken.one;
        other = broken.other;
        order = order;
        first = sym (is.same a near) ∙ broken.first;
        second = sym (is.same b within) ∙ broken.second;
        apart = broken.apart;
      }

  in-whole : (end : ℕ) (front whole : Noted K V) → IsFront K V end front whole → (a b : ℕ)
      → Breaks K V agree front a b → Breaks K V agree whole a b
  in-whole end front whole is a b broken =
      record {
        key = broken.key;
        one = broken.one;
        other = broken.other;
        order = broken.order;
        first = is.same a (is.ends a (broken.key, broken.one) broken.first) ∙ broken.first;
        second = is.same b (is.ends b (broken.key, broken.other) broken.second) ∙ broken.second;
        apart = broken.apart;
      }

  -- what is broken in a front stays broken by the same pair
  pub front-stays : (end : ℕ) (front whole : Noted K V) (pair : ℕ × ℕ) → IsFront K V end front whole
      → IsJudged (Breaks K V agree front) (Some pair)
      → IsJudged (Breaks K V agree whole) (Some pair)
  front-stays end front whole pair is was =
      let b = was.broken in
      let here : pair.1 ≤ end = is.ends pair.1 (b.key, b.other) b.second in
      record {
        broken = in-whole end front whole is pair.0 pair.1 b;
        least = λ c d broken. at c d here broken (cases_lt end d);
        first = λ c broken. was.first c (in-front end front whole is c pair.1 here broken);
      }
    where
      at : (c d : ℕ) → pair.1 ≤ end → Breaks K V agree whole c d → (end < d) ⊎ (d ≤ end) → pair.1 ≤ d
      at c d here broken (inl far) = omega (arith, far, here)
      at c d here broken (inr within) = was.least c d (in-front end front whole is c d within broken)

  record Pair (noted : Noted K V) : Type 0 where
    pub one : ℕ
    pub other : ℕ
    pub broken : Breaks K V agree noted one other

  -- of what was told twice of one key, what does not agree with the one was apart from the other
  twice-told : (before : Noted K V) (earlier a : ℕ) (key : K) (v x : V)
      → ((x : V) → agree x x ≡ true) → ((x y : V) → agree x y ≡ agree y x)
      → before earlier ≡ Some (key, v) → before a ≡ Some (key, x) → agree x v ≡ false
      → Pair before
  twice-told before earlier a key v x itself turned told other apart =
      by-order (cases_lt a earlier) (cases_lt earlier a)
    where
      by-order : (a < earlier) ⊎ (earlier ≤ a) → (earlier < a) ⊎ (a ≤ earlier)
          → Pair before
      by-order (inl less) _ =
          record {
            one = a;
            other = earlier;
            broken = record {
              key = key;
              one = x;
              other = v;
              order = less;
              first = other;
              second = told;
              apart = apart;
            };
          }
      by-order (inr _) (inl more) =
          record {
            one = earlier;
            other = a;
            broken = record {
              key = key;
              one = v;
              other = x;
              order = more;
              first = told;
              second = other;
              apart = turned v x ∙ apart;
            };
          }
      by-order (inr more) (inr less) =
          let same : a ≡ earlier = omega (arith, more, less) in
          let both : ◌≡◌ {A = Option (K × V)} (Some (key, x)) (Some (key, v)) = sym other ∙ ap before same ∙ told in
          let one : x ≡ v = ap (λ (p : K × V). p.1) (pair-same both) in
          absurd (cc (sym apart ∙ ap (agree x) (sym one) ∙ itself x))

  -- what was told of a key before, told of it once more, changes no verdict
  pub repetition-in : (before now : Noted K V) (earlier number : ℕ) (key : K) (v : V)
      → ((x : V) → agree x x ≡ true) → ((x y : V) → agree x y ≡ agree y x)
      → before earlier ≡ Some (key, v) → IsOneMore K V before now number (Some (key, v))
      → (verdict : Option (ℕ × ℕ)) → IsJudged (Breaks K V agree before) verdict
      → IsJudged (Breaks K V agree now) verdict
  repetition-in before now earlier number key v itself turned told go None was =
      none-stays K V agree before now number (Some (key, v)) go was
      (λ a k x w other new. fits a k x w other new (agree x w) refl)
    where
      fits : (a : ℕ) (k : K) (x w : V) → before a ≡ Some (k, x) → ◌≡◌ {A = Option (K × V)} (Some (key, v)) (Some (k, w))
          → (b : Bool) → agree x w ≡ b → agree x w ≡ true
      fits a k x w other new true is = is
      fits a k x w other new false is =
          let same : k ≡ key = ap (λ (p : K × V). p.0) (sym (pair-same new)) in
          let value : w ≡ v = ap (λ (p : K × V). p.1) (sym (pair-same new)) in
          let pair = twice-told before earlier a key v x itself turned told
          (other ∙ ap (λ j. Some (j, x)) same) (ap (agree x) (sym value) ∙ is) in
          absurd (was pair.one pair.other pair.broken)
  repetition-in before now earlier number key v itself turned told go (Some pair) was =
      found-stays K V agree before now number (Some (key, v)) go pair was

  -- and no verdict comes by it
  pub repetition-out : (before now : Noted K V) (earlier number : ℕ) (key : K) (v : V)
      → ((x : V) → agree x x ≡ true) → ((x y : V) → agree x y ≡ agree y x)
      → before earlier ≡ Some (key, v) → IsOneMore K V before now number (Some (key, v))
      → (verdict : Option (ℕ × ℕ)) → IsJudged (Breaks K V agree now) verdict
      → IsJudged (Breaks K V agree before) verdict
  repetition-out before now earlier number key v itself turned told go None was = λ a b broken.
      was a b (new-pair K V agree before now number (Some (key, v)) go a b broken)
  repetition-out before now earlier number key v itself turned told go (Some pair) was =
      record {
        broken = old-pair K V agree before now number (Some (key, v)) go pair.0 pair.1 was.broken far;
        least = λ a b broken.
            was.least a b (new-pair K V agree before now number (Some (key, v)) go a b broken);
        first = λ a broken.
            was.first a (new-pair K V agree before now number (Some (key, v)) go a pair.1 broken);
      }
    where
      far : pair.1 ≢ number
      far e =
          let broken = was.broken in
          let order = broken.order in
          let near : pair.0 ≢ number = λ s. omega (arith, s, e, order) in
          let said : ◌≡◌ {A = Option (K × V)} (Some (key, v)) (Some (broken.key, broken.other)) =
          sym go.here ∙ subst (λ m. now m ≡ Some (broken.key, broken.other)) e broken.second in
          let same : broken.key ≡ key = ap (λ (p : K × V). p.0) (sym (pair-same said)) in
          let value : broken.other ≡ v = ap (λ (p : K × V). p.1) (sym (pair-same said)) in
          let found = twice-told before earlier pair.0 key v broken.one itself turned told
          (sym (go.kept pair.0 near) ∙ broken.first ∙ ap (λ j. Some (j, broken.one)) same)
          (ap (agree broken.one) (sym value) ∙ broken.apart) in
          let b = found.broken in
          let less = go.within found.other (b.key, b.other) b.second in
          let more = was.least found.one found.other
          (new-pair K V agree before now number (Some (key, v)) go found.one found.other b) in
          omega (arith, less, more, e)
