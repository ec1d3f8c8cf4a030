-- The least pair that breaks, as what is told comes one by one.
use Rattle.std.proofs.Common.{◌≡◌, ◌≢◌, ◌∙◌, ◌<◌, ◌≤◌, ◌⊎◌, inl, inr, ℕ, Bool, true, false, Option, Some, None, refl, sym, ap, subst, arith}
use Rattle.std.specs.Prelude.{◌==◌}
use Rattle.std.proofs.lemmas.Bool.{eqb-true, eq-eqb}
use Rattle.least_pairs.specs.Pairs.{Noted, Breaks, IsJudged, IsFound, IsOneMore}

pub some-same : {A : Type 0} {a b : A} → Some a ≡ Some b → a ≡ b
some-same is = cc is

pub nat_dec : (a b : ℕ) → (a ≡ b) ⊎ (a ≢ b)
nat_dec a b = go (a == b) refl
  where
    go : (c : Bool) → (a == b) ≡ c → (a ≡ b) ⊎ (a ≢ b)
    go true e = inl (eqb-true a b e)
    go false e = inr (λ same. absurd (cc (sym (eq-eqb a b same), e)))

module _ (K V : Type 0) (agree : V → V → Bool) where
  pub old-pair : (f g : Noted K V) (n : ℕ) (new : Option (K × V)) → IsOneMore K V f g n new → (a b : ℕ)
      → Breaks K V agree g a b → b ≢ n → Breaks K V agree f a b
  old-pair f g n new go a b broken apart =
      let second : f b ≡ Some (broken.key, broken.other) = sym (go.kept b apart) ∙ broken.second in
      let less = go.within b (broken.key, broken.other) second in
      let order = broken.order in
      let other : a ≢ n = λ e. omega (arith, e, less, order) in
      record {
        key = broken.key;
        one = broken.one;
        other = broken.other;
        order = broken.order;
        first = sym (go.kept a other) ∙ broken.first;
        second = second;
        apart = broken.apart;
      }

  pub later-is : (f g : Noted K V) (n : ℕ) (new : Option (K × V)) → IsOneMore K V f g n new → (a b : ℕ)
      → Breaks K V agree g a b → b ≤ n
  later-is f g n new go a b broken = by-eq (nat_dec b n)
    where
      by-eq : (b ≡ n) ⊎ (b ≢ n) → b ≤ n
      by-eq (inl e) = omega (arith, e)
      by-eq (inr apart) =
          let less = go.within b (broken.key, broken.other) (sym (go.kept b apart) ∙ broken.second) in
          omega (arith, less)

  pub new-pair : (f g : Noted K V) (n : ℕ) (new : Option (K × V)) → IsOneMore K V f g n new → (a b : ℕ)
      → Breaks K V agree f a b → Breaks K V agree g a b
  new-pair f g n new go a b broken =
      let less = go.within b (broken.key, broken.other) broken.second in
      let order = broken.order in
      let far : b ≢ n = λ e. omega (arith, e, less) in
      let near : a ≢ n = λ e. omega (arith, e, less, order) in
      record {
        key = broken.key;
        one = broken.one;
        other = broken.other;
        order = broken.order;
        first = go.kept a near ∙ broken.first;
        second = go.kept b far ∙ broken.second;
        apart = broken.apart;
      }

  -- a pair that was found stays the least one
  pub found-stays : (f g : Noted K V) (n : ℕ) (new : Option (K × V)) → IsOneMore K V f g n new
      → (pair : ℕ × ℕ) → IsJudged (Breaks K V agree f) (Some pair)
      → IsJudged (Breaks K V agree g) (Some pair)
  found-stays f g n new go pair was =
      let b = was.broken in
      let less = go.within pair.1 (b.key, b.other) b.second in
      let far : pair.1 ≢ n = λ e. omega (arith, e, less) in
      record {
        broken = new-pair f g n new go pair.0 pair.1 b;
        least = λ c d broken. by-eq c d broken less (nat_dec d n);
        first = λ c broken. was.first c (old-pair f g n new go c pair.1 broken far);
      }
    where
      by-eq : (c d : ℕ) → Breaks K V agree g c d → pair.1 < n → (d ≡ n) ⊎ (d ≢ n)
          → pair.1 ≤ d
      by-eq c d broken less (inl e) = omega (arith, e, less)
      by-eq c d broken less (inr apart) = was.least c d (old-pair f g n new go c d broken apart)

  -- nothing new is told, or what is new agrees with all that was told of its key
  pub none-stays : (f g : Noted K V) (n : ℕ) (new : Option (K × V)) → IsOneMore K V f g n new
      → IsJudged (Breaks K V agree f) None
      → ((a : ℕ) (k : K) (v w : V) → f a ≡ Some (k, v) → new ≡ Some (k, w) → agree v w ≡ true)
      → IsJudged (Breaks K V agree g) None
  none-stays f g n new go was fits a b broken = by-eq (nat_dec b n)
    where
      by-eq : (b ≡ n) ⊎ (b ≢ n) → ⊥
      by-eq (inl e) =
          let order = broken.order in
          let near : a ≢ n = λ s. omega (arith, s, e, order) in
          let said : new ≡ Some (broken.key, broken.other) =
          sym go.here ∙ subst (λ m. g m ≡ Some (broken.key, broken.other)) e broken.second in
          let yes = fits a broken.key broken.one broken.other
          (sym (go.kept a near) ∙ broken.first) said in
          absurd (cc (yes, broken.apart))
      by-eq (inr apart) = was a b (old-pair f g n new go a b broken apart)

  -- what is new does not agree with the first that was told of its key
  pub broken-now : (f g : Noted K V) (n : ℕ) (k : K) (v : V) → IsOneMore K V f g n (Some (k, v))
      → IsJudged (Breaks K V agree f) None → (nv : ℕ × V) → IsFound K V f k (Some nv)
      → agree nv.1 v ≡ false → IsJudged (Breaks K V agree g) (Some (nv.0, n))
  broken-now f g n k v go was nv found apart =
      let less = go.within nv.0 (k, nv.1) found.0 in
      let near : nv.0 ≢ n = λ e. omega (arith, e, less) in
      record {
        broken = record {
          key = k;
          one = nv.1;
          other = v;
          order = less;
          first = go.kept nv.0 near ∙ found.0;
          second = go.here;
          apart = apart;
        };
        least = λ a b broken. at-end a b broken (nat_dec b n);
        first = λ a broken. from-first a broken;
      }
    where
      at-end : (a b : ℕ) → Breaks K V agree g a b → (b ≡ n) ⊎ (b ≢ n) → n ≤ b
      at-end a b broken (inl e) = omega (arith, e)
      at-end a b broken (inr far) =
          absurd (was a b (old-pair f g n (Some (k, v)) go a b broken far))

      from-first : (a : ℕ) → Breaks K V agree g a n → nv.0 ≤ a
      from-first a broken =
          let order = broken.order in
          let near : a ≢ n = λ s. omega (arith, s, order) in
          let same : Some (k, v) ≡ Some (broken.key, broken.other) =
          sym go.here ∙ broken.second in
          let key : broken.key ≡ k = ap (λ (p : K × V). p.0) (sym (some-same same)) in
          found.1 a broken.one (sym (go.kept a near) ∙ broken.first
          ∙ ap (λ j. Some (j, broken.one)) key)

  -- ---- what is found under each key

  pub found-is : (f g : Noted K V) (n : ℕ) (new : Option (K × V)) → IsOneMore K V f g n new → (k : K)
      → ((v : V) → new ≡ Some (k, v) → ⊥) → (o : Option (ℕ × V)) → IsFound K V f k o → IsFound K V g k o
  found-is f g n new go k other None was = λ m v is. by-eq m v is (nat_dec m n)
    where
      by-eq : (m : ℕ) (v : V) → g m ≡ Some (k, v) → (m ≡ n) ⊎ (m ≢ n) → ⊥
      by-eq m v is (inl e) = other v (sym go.here ∙ subst (λ m. g m ≡ Some (k, v)) e is)
      by-eq m v is (inr apart) = was m v (sym (go.kept m apart) ∙ is)
  found-is f g n new go k other (Some nv) was =
      let less = go.within nv.0 (k, nv.1) was.0 in
      let near : nv.0 ≢ n = λ e. omega (arith, e, less) in
      (go.kept nv.0 near ∙ was.0, λ m w is. by-eq m w is less (nat_dec m n))
    where
      by-eq : (m : ℕ) (w : V) → g m ≡ Some (k, w) → nv.0 < n → (m ≡ n) ⊎ (m ≢ n)
          → nv.0 ≤ m
      by-eq m w is less (inl e) = omega (arith, e, less)
      by-eq m w is less (inr apart) = was.1 m w (sym (go.kept m apart) ∙ is)

  -- what is told further of a key does not change what was told first
  pub found-again : (f g : Noted K V) (n : ℕ) (new : Option (K × V)) → IsOneMore K V f g n new → (k : K)
      → (nv : ℕ × V) → IsFound K V f k (Some nv) → IsFound K V g k (Some nv)
  found-again f g n new go k nv was =
      let less = go.within nv.0 (k, nv.1) was.0 in
      let near : nv.0 ≢ n = λ e. omega (arith, e, less) in
      (go.kept nv.0 near ∙ was.0, λ m w is. by-eq m w is less (nat_dec m n))
    where
      by-eq : (m : ℕ) (w : V) → g m ≡ Some (k, w) → nv.0 < n → (m ≡ n) ⊎ (m ≢ n)
          → nv.0 ≤ m
      by-eq m w is less (inl e) = omega (arith, e, less)
      by-eq m w is less (inr apart) = was.1 m w (sym (go.kept m apart) ∙ is)

  -- what is told first of a key
  pub found-first : (f g : Noted K V) (n : ℕ) (k : K) (v : V) → IsOneMore K V f g n (Some (k, v))
      → IsFound K V f k None → IsFound K V g k (Some (n, v))
  found-first f g n k v go was = (go.here, λ m w is. by-eq m w is (nat_dec m n))
    where
      by-eq : (m : ℕ) (w : V) → g m ≡ Some (k, w) → (m ≡ n) ⊎ (m ≢ n) → n ≤ m
      by-eq m w is (inl e) = omega (arith, e)
      by-eq m w is (inr apart) = absurd (was m w (sym (go.kept m apart) ∙ is))

  -- ---- what is told, and the pair and the first of each key that are kept

  -- nothing new is told
  pub quiet : (f g : Noted K V) (n : ℕ) → IsOneMore K V f g n None → (o : Option (ℕ × ℕ))
      → IsJudged (Breaks K V agree f) o → IsJudged (Breaks K V agree g) o
  quiet f g n go None was = none-stays f g n None go was (λ a k v w e is. absurd (cc is))
  quiet f g n go (Some pair) was = found-stays f g n None go pair was

  pub found-quiet : (f g : Noted K V) (n : ℕ) → IsOneMore K V f g n None → (k : K) (o : Option (ℕ × V))
      → IsFound K V f k o → IsFound K V g k o
  found-quiet f g n go k o was = found-is f g n None go k (λ v is. absurd (cc is)) o was

  -- the first that is told of a key
  pub first-told : (f g : Noted K V) (n : ℕ) (k : K) (v : V) → IsOneMore K V f g n (Some (k, v))
      → IsFound K V f k None → IsJudged (Breaks K V agree f) None
      → IsJudged (Breaks K V agree g) None
  first-told f g n k v go none was =
      none-stays f g n (Some (k, v)) go was
      (λ a j u w e is.
      let same : k ≡ j = ap (λ (p : K × V). p.0) (some-same is) in
      absurd (none a u (e ∙ ap (λ i. Some (i, u)) (sym same))))

  -- what is told agrees with the first of its key
  pub agreeing : (joins : (u v w : V) → agree u v ≡ true → agree u w ≡ true → agree v w ≡ true)
      → (itself : (u v : V) → u ≡ v → agree u v ≡ true)
      → (f g : Noted K V) (n : ℕ) (k : K) (v : V) → IsOneMore K V f g n (Some (k, v))
      → (nv : ℕ × V) → IsFound K V f k (Some nv) → agree nv.1 v ≡ true
      → IsJudged (Breaks K V agree f) None → IsJudged (Breaks K V agree g) None
  agreeing joins itself f g n k v go nv found fits was =
      none-stays f g n (Some (k, v)) go was
      (λ a j u w e is.
      let key : k ≡ j = ap (λ (p : K × V). p.0) (some-same is) in
      let told : v ≡ w = ap (λ (p : K × V). p.1) (some-same is) in
      let here : f a ≡ Some (k, u) = e ∙ ap (λ i. Some (i, u)) (sym key) in
      joins nv.1 u w (first a u here (nat_dec nv.0 a) (agree nv.1 u) refl)
      (subst (λ x. agree nv.1 x ≡ true) told fits))
    where
      first : (a : ℕ) (u : V) → f a ≡ Some (k, u) → (nv.0 ≡ a) ⊎ (nv.0 ≢ a) → (b : Bool)
          → agree nv.1 u ≡ b → agree nv.1 u ≡ true
      first a u here (inl e) b is =
          itself nv.1 u (ap (λ (p : K × V). p.1)
          (some-same (sym found.0 ∙ ap f e ∙ here)))
      first a u here (inr apart) true is = is
      first a u here (inr apart) false is =
          let least = found.1 a u here in
          absurd (was nv.0 a (record {
            key = k;
            one = nv.1;
            other = u;
            order = omega (arith, least, apart);
            first = found.0;
            second = here;
            apart = is;
          }))

  -- what is kept of what was told: the verdict, and while no pair breaks the first of each key
  abbrev pub KeepsFirsts : Noted K V → Option (ℕ × ℕ) → (K → Option (ℕ × V)) → Type 0
  KeepsFirsts f o found =
      IsJudged (Breaks K V agree f) o × (o ≡ None → (k : K) → IsFound K V f k (found k))

  pub still : (f g : Noted K V) (n : ℕ) → IsOneMore K V f g n None
      → (o : Option (ℕ × ℕ)) (found : K → Option (ℕ × V)) → KeepsFirsts f o found
      → KeepsFirsts g o found
  still f g n go o found was = (
    quiet f g n go o was.0,
    λ e k. found-quiet f g n go k (found k) (was.1 e k),
  )
