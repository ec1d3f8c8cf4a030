-- What was told first of each key, and the least pair that breaks, with one number more.
use Rattle.std.proofs.Common.{◌≡◌, ◌≢◌, ◌∙◌, ◌<◌, ◌≤◌, ◌⊎◌, inl, inr, ℕ, Bool, true, false, cond, Option, Some, None, refl, sym, ap, subst, arith}
use Rattle.std.specs.Prelude.{◌==◌, ◌&&◌, nat_lt}
use Rattle.std.specs.Option.{option_or}
use Rattle.std.proofs.lemmas.Bool.{and_parts, or_cases, or_parts, and_cases, eqb-true, eqb-false, ltb-true, ltb-false}
use Rattle.least_pairs.specs.Pairs.{Noted, Breaks, IsJudged, IsFound, IsOneMore}
use Rattle.least_pairs.proofs.Public.{some-same, found-is, found-again, found-first, found-stays, first-told, broken-now, agreeing}
use Rattle.known_keys.specs.OneKey.{other_first, is_less, lesser_of}
use Rattle.known_keys.specs.inside.Firsts.{IsFirst, Finds, IsNoted, pair_after}

-- equal values agree, and what agrees with one agrees
pub record Agrees (V : Type 0) (agree : V → V → Bool) : Type 0 where
  pub itself : (u v : V) → u ≡ v → agree u v ≡ true
  pub joins : (u v w : V) → agree u v ≡ true → agree u w ≡ true → agree v w ≡ true

module _ (K V : Type 0) (agree : V → V → Bool) where
  abbrev pub AreFound : Noted K V → (K → Option (ℕ × V)) → Type 0
  AreFound f found = (k : K) → IsFound K V f k (found k)

  found-after : (dec : (a b : K) → (a ≡ b) ⊎ (a ≢ b)) (f g : Noted K V) (n : ℕ) (key : K) (v : V)
      → IsOneMore K V f g n (Some (key, v)) → (old new : K → Option (ℕ × V)) → AreFound f old
      → (o : Option (ℕ × V)) → old key ≡ o → Finds K V old new n key v o → AreFound g new
  found-after dec f g n key v go old new were None is finds k = at (dec k key)
    where
      at : (k ≡ key) ⊎ (k ≢ key) → IsFound K V g k (new k)
      at (inl same) =
          subst (λ (j : K). IsFound K V g j (new j)) (sym same)
          (subst (λ (o : Option (ℕ × V)). IsFound K V g key o) (sym finds.here)
          (found-first K V agree f g n key v go
          (subst (λ (o : Option (ℕ × V)). IsFound K V f key o) is (were key))))
      at (inr apart) =
          subst (λ (o : Option (ℕ × V)). IsFound K V g k o) (sym (finds.others k apart))
          (found-is K V agree f g n (Some (key, v)) go k
          (λ w e. apart (sym (ap (λ (p : K × V). p.0) (some-same e)))) (old k) (were k))
  found-after dec f g n key v go old new were (Some nv) is finds k = at (dec k key)
    where
      again : (o : Option (ℕ × V)) → o ≡ Some nv → IsFound K V f key o → IsFound K V g key o
      again None e was = absurd (cc e)
      again (Some mv) e was = found-again K V agree f g n (Some (key, v)) go key mv was

      at : (k ≡ key) ⊎ (k ≢ key) → IsFound K V g k (new k)
      at (inl same) =
          subst (λ (o : Option (ℕ × V)). IsFound K V g k o) (sym (finds k))
          (subst (λ (j : K). IsFound K V g j (old j)) (sym same) (again (old key) is (were key)))
      at (inr apart) =
          subst (λ (o : Option (ℕ × V)). IsFound K V g k o) (sym (finds k))
          (found-is K V agree f g n (Some (key, v)) go k
          (λ w e. apart (sym (ap (λ (p : K × V). p.0) (some-same e)))) (old k) (were k))

  judged-after : Agrees V agree → (f g : Noted K V) (n : ℕ) (key : K) (v : V)
      → IsOneMore K V f g n (Some (key, v)) → (o : Option (ℕ × V)) → IsFound K V f key o
      → (pair : Option (ℕ × ℕ)) → IsJudged (Breaks K V agree f) pair
      → IsJudged (Breaks K V agree g) (pair_after pair n (other_first V agree v o))
  judged-after laws f g n key v go None found None was = first-told K V agree f g n key v go found was
  judged-after laws f g n key v go None found (Some pair) was =
      found-stays K V agree f g n (Some (key, v)) go pair was
  judged-after laws f g n key v go (Some nv) found (Some pair) was = at (agree nv.1 v)
    where
      at : (b : Bool) → IsJudged (Breaks K V agree g) (pair_after (Some pair) n (cond b None (Some nv.0)))
      at true = found-stays K V agree f g n (Some (key, v)) go pair was
      at false = found-stays K V agree f g n (Some (key, v)) go pair was
  judged-after laws f g n key v go (Some nv) found None was = at (agree nv.1 v) refl
    where
      at : (b : Bool) → agree nv.1 v ≡ b
          → IsJudged (Breaks K V agree g) (pair_after None n (cond b None (Some nv.0)))
      at true fits = agreeing K V agree laws.joins laws.itself f g n key v go nv found fits was
      at false apart = broken-now K V agree f g n key v go was nv found apart

  -- what is kept of what was told, and one number more
  pub noted-more : Agrees V agree → (dec : (a b : K) → (a ≡ b) ⊎ (a ≢ b)) (f g : Noted K V) (n : ℕ) (key : K) (v : V)
      → IsOneMore K V f g n (Some (key, v)) → (old new : K → Option (ℕ × V)) (pair then : Option (ℕ × ℕ))
      (answer : Option ℕ) → AreFound f old → IsJudged (Breaks K V agree f) pair
      → IsNoted K V agree old new pair then n key v answer
      → AreFound g new × IsJudged (Breaks K V agree g) then
  noted-more laws dec f g n key v go old new pair then answer were was noted = (
    found-after dec f g n key v go old new were (old key) refl noted.finds,
    subst (λ (o : Option (ℕ × ℕ)). IsJudged (Breaks K V agree g) o) (sym noted.pair)
        (judged-after laws f g n key v go (old key) (were key) pair was),
  )

  -- the first that is told of a key
  pub noted-new : (old new : K → Option (ℕ × V)) (pair : Option (ℕ × ℕ)) (number : ℕ) (key : K) (v : V)
      → old key ≡ None → IsFirst K V old new number key v → IsNoted K V agree old new pair pair number key v None
  noted-new old new pair number key v none first = record {
    finds = subst (λ (o : Option (ℕ × V)). Finds K V old new number key v o) (sym none) first;
    answers = sym (ap (λ (o : Option (ℕ × V)). other_first V agree v o) none);
    pair = sym (ap (λ (o : Option (ℕ × V)). pair_after pair number (other_first V agree v o)) none);
  }

-- ---- the first in a history

pub or-none : {X : Type 0} (o : Option X) → option_or o None ≡ o
or-none None = refl
or-none (Some x) = refl

-- what is found under each key stays, or is what is told now
module _ (K V : Type 0) (same : K → K → Bool) (is : (a b : K) → same a b ≡ true → a ≡ b)
    (itself : (a : K) → same a a ≡ true) where
  pub first-after : (old new : K → Option (ℕ × V)) (number : ℕ) (key : K) (v : V) (o : Option (ℕ × V)) → old key ≡ o
      → Finds K V old new number key v o → (q : K)
      → new q ≡ option_or (old q) (cond (same key q) (Some (number, v)) None)
  first-after old new number key v o there finds q = go (same key q) refl o there finds
    where
      go : (b : Bool) → same key q ≡ b → (o : Option (ℕ × V)) → old key ≡ o → Finds K V old new number key v o
          → new q ≡ option_or (old q) (cond b (Some (number, v)) None)
      go true e None there finds =
          let at = is key q e in
          ap new (sym at) ∙ finds.here
          ∙ sym (ap (λ (o : Option (ℕ × V)). option_or o (Some (number, v))) (ap old (sym at) ∙ there))
      go true e (Some nv) there finds =
          let found : old q ≡ Some nv = ap old (sym (is key q e)) ∙ there in
          finds q ∙ found ∙ sym (ap (λ (o : Option (ℕ × V)). option_or o (Some (number, v))) found)
      go false e None there finds =
          finds.others q (λ at. absurd (cc (ap (λ (x : K). same key x) at ∙ itself key, e))) ∙ sym (or-none (old q))
      go false e (Some nv) there finds = finds q ∙ sym (or-none (old q))

-- ---- the lesser of two judged pairs

module _ (One Other : ℕ → ℕ → Type 0) where
  abbrev pub Either : ℕ → ℕ → Type 0
  Either a b = One a b ⊎ Other a b

  less-is : (a b : ℕ × ℕ) → is_less b a ≡ true → (b.1 < a.1) ⊎ ((b.1 ≡ a.1) × (b.0 < a.0))
  less-is a b e = go (or_cases (nat_lt b.1 a.1) (b.1 == a.1 && nat_lt b.0 a.0) e)
    where
      go : (nat_lt b.1 a.1 ≡ true) ⊎ ((b.1 == a.1 && nat_lt b.0 a.0) ≡ true)
          → (b.1 < a.1) ⊎ ((b.1 ≡ a.1) × (b.0 < a.0))
      go (inl less) = inl (ltb-true b.1 a.1 less)
      go (inr both) = let p = and_parts (b.1 == a.1) (nat_lt b.0 a.0) both in
          inr (eqb-true b.1 a.1 p.0, ltb-true b.0 a.0 p.1)

  not-less : (a b : ℕ × ℕ) → is_less b a ≡ false → (a.1 ≤ b.1) × (b.1 ≡ a.1 → a.0 ≤ b.0)
  not-less a b e =
      let p = or_parts (nat_lt b.1 a.1) (b.1 == a.1 && nat_lt b.0 a.0) e in
      (ltb-false b.1 a.1 p.0, λ same. go same (and_cases (b.1 == a.1) (nat_lt b.0 a.0) p.1))
    where
      go : b.1 ≡ a.1 → ((b.1 == a.1) ≡ false) ⊎ (nat_lt b.0 a.0 ≡ false) → a.0 ≤ b.0
      go same (inl differs) = absurd (eqb-false b.1 a.1 differs same)
      go same (inr above) = ltb-false b.0 a.0 above

  pub lesser-judged : (one other : Option (ℕ × ℕ)) → IsJudged One one → IsJudged Other other
      → IsJudged Either (lesser_of one other)
  lesser-judged None None a b = λ i j broken. go i j broken
    where
      go : (i j : ℕ) → One i j ⊎ Other i j → ⊥
      go i j (inl x) = a i j x
      go i j (inr x) = b i j x
  lesser-judged None (Some q) a b = record {
    broken = inr b.broken;
    least = λ i j broken. least i j broken;
    first = λ i broken. first i broken;
  }
    where
      least : (i j : ℕ) → One i j ⊎ Other i j → q.1 ≤ j
      least i j (inl x) = absurd (a i j x)
      least i j (inr x) = b.least i j x

      first : (i : ℕ) → One i q.1 ⊎ Other i q.1 → q.0 ≤ i
      first i (inl x) = absurd (a i q.1 x)
      first i (inr x) = b.first i x
  lesser-judged (Some p) None a b = record {
    broken = inl a.broken;
    least = λ i j broken. least i j broken;
    first = λ i broken. first i broken;
  }
    where
      least : (i j : ℕ) → One i j ⊎ Other i j → p.1 ≤ j
      least i j (inl x) = a.least i j x
      least i j (inr x) = absurd (b i j x)

      first : (i : ℕ) → One i p.1 ⊎ Other i p.1 → p.0 ≤ i
      first i (inl x) = a.first i x
      first i (inr x) = absurd (b i p.1 x)
  lesser-judged (Some p) (Some q) a b = at (is_less q p) refl
    where
      q-least : (q.1 < p.1) ⊎ ((q.1 ≡ p.1) × (q.0 < p.0)) → (i j : ℕ) → One i j ⊎ Other i j → q.1 ≤ j
      q-least (inl less) i j (inl x) = let l = a.least i j x in omega (arith, l, less)
      q-least (inr less) i j (inl x) = let l = a.least i j x in let e = less.0 in omega (arith, l, e)
      q-least less i j (inr x) = b.least i j x

      q-first : (q.1 < p.1) ⊎ ((q.1 ≡ p.1) × (q.0 < p.0)) → (i : ℕ) → One i q.1 ⊎ Other i q.1 → q.0 ≤ i
      q-first (inl less) i (inl x) = let l = a.least i q.1 x in absurd (omega (arith, l, less))
      q-first (inr less) i (inl x) =
          let l = a.first i (subst (λ j. One i j) less.0 x) in let e = less.1 in omega (arith, l, e)
      q-first less i (inr x) = b.first i x

      p-least : (p.1 ≤ q.1) → (i j : ℕ) → One i j ⊎ Other i j → p.1 ≤ j
      p-least near i j (inl x) = a.least i j x
      p-least near i j (inr x) = let l = b.least i j x in omega (arith, l, near)

      p-first : (p.1 ≤ q.1) → (q.1 ≡ p.1 → p.0 ≤ q.0) → (i : ℕ) → One i p.1 ⊎ Other i p.1 → p.0 ≤ i
      p-first near low i (inl x) = a.first i x
      p-first near low i (inr x) =
          let l = b.least i p.1 x in
          let same : q.1 ≡ p.1 = omega (arith, l, near) in
          let f = b.first i (subst (λ j. Other i j) (sym same) x) in
          let g = low same in omega (arith, f, g)

      at : (c : Bool) → is_less q p ≡ c → IsJudged Either (cond c (Some q) (Some p))
      at true e = record {
        broken = inr b.broken;
        least = λ i j broken. q-least (less-is p q e) i j broken;
        first = λ i broken. q-first (less-is p q e) i broken;
      }
      at false e = record {
        broken = inl a.broken;
        least = λ i j broken. p-least (not-less p q e).0 i j broken;
        first = λ i broken. p-first (not-less p q e).0 (not-less p q e).1 i broken;
      }
