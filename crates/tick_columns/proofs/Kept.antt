-- What is kept of items, one column or one item more.
use Rattle.std.proofs.Common.{◌≡◌, ◌≢◌, ◌∙◌, ◌<◌, ◌≤◌, ◌+◌, ◌*◌, ◌/◌, ℕ, Bool, true, false, List, [], ◌∷◌, ◌++◌, length, Option, Some, None, All, refl, sym, ap, subst, arith, append_assoc}
use Rattle.std.specs.Prelude.{◌==◌, if◌then◌else◌, option_to_list, Result, Ok, Err, OnOk}
use Rattle.std.specs.declared.alloc.AllocError.{AllocError}
use Rattle.std.proofs.lemmas.Bool.{eqb-true}
use Rattle.std.proofs.lemmas.List.{append-nil, length-append}
use Rattle.std.proofs.lemmas.List.Elements.{All-nil, All-append, All-weaker}
use Rattle.tick_columns.specs.declared.column.Column.{Column}
use Rattle.tick_columns.specs.Columns.{AreColumns, IsColumn, IsThinned, Columns, columns}
use Rattle.tick_columns.specs.inside.Joining.{IsWidened, IsWider, both, joined, joined_to, renewed, renewed_latest}
use Rattle.tick_columns.proofs.Cut.{IsApart, all-last, apart, behind, both-column, div-less, in-column, one-column, wider-column, wider-le}

eqb-false : (a b : ℕ) → (a == b) ≡ false → a ≢ b
eqb-false a b is same = grind (arith, is, same)

module _ {T : Type 0} (time : T → ℕ) where
  -- ---- a column more

  module _ (w : ℕ) (items own : List T) (c : Column T) (is : IsColumn time w own c)
      (late : All (λ x. time x / w ≤ time c.last / w) items) (earlier : List (Column T)) where
    to-none : items ≡ [] → AreColumns time w items (earlier ++ [])
        → AreColumns time w (items ++ own) (earlier ++ c ∷ [])
    to-none none are =
        behind time w items own earlier c
        (subst (λ (cs : List (Column T)). AreColumns time w items cs) (append-nil earlier) are) is
        (subst (λ (xs : List T). All (λ x. time x / w < time c.last / w) xs) (sym none)
        (All-nil (λ (x : T). time x / w < time c.last / w)))

    abbrev After : Column T → Bool → Type 0
    After d b = AreColumns time w (items ++ own)
        (columns (if b then record { ticks = w; earlier = earlier; latest = Some (both d c) }
        else record { ticks = w; earlier = earlier ++ d ∷ []; latest = Some c }))

    to-some : (d : Column T) → AreColumns time w items (earlier ++ d ∷ [])
        → (b : Bool) → (time d.last / w == time c.last / w) ≡ b → After d b
    to-some d are true same =
        let a = apart time w items earlier d are in
        let equal = eqb-true (time d.last / w) (time c.last / w) same in
        subst (λ (xs : List T). AreColumns time w xs (earlier ++ both d c ∷ []))
        (sym (append_assoc a.front a.own own) ∙ ap (λ (xs : List T). xs ++ own) (sym a.parts))
        (behind time w a.front (a.own ++ own) earlier (both d c) a.columns
        (both-column time w a.own own d c a.column is equal)
        (All-weaker (λ (x : T). time x / w < time d.last / w) (λ (x : T). time x / w < time c.last / w)
        (λ x less. let at : time d.last / w ≡ time c.last / w = equal in omega (arith, less, at)) a.front a.less))
    to-some d are false apart_is =
        let a = apart time w items earlier d are in
        let other = eqb-false (time d.last / w) (time c.last / w) apart_is in
        let whole : items ≡ (a.front ++ a.column.before) ++ d.last ∷ [] =
        a.parts ∙ ap (λ (xs : List T). a.front ++ xs) a.column.items_are
        ∙ sym (append_assoc a.front a.column.before (d.last ∷ [])) in
        let no_later : time d.last / w ≤ time c.last / w =
        all-last (λ (x : T). time x / w ≤ time c.last / w) (a.front ++ a.column.before) d.last
        (subst (λ (xs : List T). All (λ x. time x / w ≤ time c.last / w) xs) whole late) in
        let less : time d.last / w < time c.last / w = grind (arith, no_later, other) in
        behind time w items own (earlier ++ d ∷ []) c are is
        (subst (λ (xs : List T). All (λ x. time x / w < time c.last / w) xs) (sym a.parts)
        (All-append (λ (x : T). time x / w < time c.last / w) a.front a.own
        (All-weaker (λ (x : T). time x / w < time d.last / w) (λ (x : T). time x / w < time c.last / w)
        (λ x under. omega (arith, under, less)) a.front a.less)
        (All-weaker (λ (x : T). time x / w ≡ time d.last / w) (λ (x : T). time x / w < time c.last / w)
        (λ x same. let at : time x / w ≡ time d.last / w = same in omega (arith, at, less)) a.own
        (in-column time w a.own d a.column))))

    pub to-latest : (latest : Option (Column T)) → (latest ≡ None → items ≡ [])
        → AreColumns time w items (earlier ++ option_to_list latest)
        → AreColumns time w (items ++ own)
        (columns (joined_to time c (record { ticks = w; earlier = earlier; latest = latest }) latest))
    to-latest None none are = to-none (none refl) are
    to-latest (Some d) none are = to-some d are (time d.last / w == time c.last / w) refl

  pub joined-stands : (old : Columns T) (items own : List T) (c : Column T)
      → AreColumns time old.ticks items (columns old) → (old.latest ≡ None → items ≡ [])
      → IsColumn time old.ticks own c → All (λ x. time x / old.ticks ≤ time c.last / old.ticks) items
      → AreColumns time old.ticks (items ++ own) (columns (joined time c old))
  joined-stands old items own c are none is late =
      to-latest old.ticks items own c is late old.earlier old.latest none are

  -- there is a column more at most, and a latest one
  to-few : (w : ℕ) (earlier : List (Column T)) (c d : Column T) (b : Bool)
      → length (columns (if b then record { ticks = w; earlier = earlier; latest = Some (both d c) }
      else record { ticks = w; earlier = earlier ++ d ∷ []; latest = Some c }))
      ≤ length (earlier ++ d ∷ []) + 1
  to-few w earlier c d true =
      let one = length-append earlier (both d c ∷ []) in
      let two = length-append earlier (d ∷ []) in
      omega (arith, one, two)
  to-few w earlier c d false =
      let one = length-append (earlier ++ d ∷ []) (c ∷ []) in
      omega (arith, one)

  few-to : (w : ℕ) (earlier : List (Column T)) (c : Column T) (latest : Option (Column T))
      → length (columns (joined_to time c (record { ticks = w; earlier = earlier; latest = latest }) latest))
      ≤ length (earlier ++ option_to_list latest) + 1
  few-to w earlier c None =
      let one = length-append earlier (c ∷ []) in
      let nothing : List (Column T) = [] in
      let two = length-append earlier nothing in
      omega (arith, one, two)
  few-to w earlier c (Some d) = to-few w earlier c d (time d.last / w == time c.last / w)

  pub joined-few : (old : Columns T) (c : Column T)
      → length (columns (joined time c old)) ≤ length (columns old) + 1
  joined-few old c = few-to old.ticks old.earlier c old.latest

  abbrev put : (w : ℕ) (earlier : List (Column T)) (c d : Column T) (b : Bool) → Columns T
  put w earlier c d b =
      if b then record { ticks = w; earlier = earlier; latest = Some (both d c) }
      else record { ticks = w; earlier = earlier ++ d ∷ []; latest = Some c }

  some-latest : (w : ℕ) (earlier : List (Column T)) (c d : Column T) (b : Bool)
      → (put w earlier c d b).latest ≡ None → ⊥
  some-latest w earlier c d true is = cc is
  some-latest w earlier c d false is = cc is

  latest-to : (w : ℕ) (earlier : List (Column T)) (c : Column T) (latest : Option (Column T))
      → (joined_to time c (record { ticks = w; earlier = earlier; latest = latest }) latest).latest ≡ None → ⊥
  latest-to w earlier c None is = cc is
  latest-to w earlier c (Some d) is = some-latest w earlier c d (time d.last / w == time c.last / w) is

  pub joined-latest : (old : Columns T) (c : Column T) → (joined time c old).latest ≡ None → ⊥
  joined-latest old c is = latest-to old.ticks old.earlier c old.latest is

  same-ticks : (w : ℕ) (earlier : List (Column T)) (c d : Column T) (b : Bool)
      → (put w earlier c d b).ticks ≡ w
  same-ticks w earlier c d true = refl
  same-ticks w earlier c d false = refl

  ticks-to : (w : ℕ) (earlier : List (Column T)) (c : Column T) (latest : Option (Column T))
      → (joined_to time c (record { ticks = w; earlier = earlier; latest = latest }) latest).ticks ≡ w
  ticks-to w earlier c None = refl
  ticks-to w earlier c (Some d) = same-ticks w earlier c d (time d.last / w == time c.last / w)

  pub joined-ticks : (old : Columns T) (c : Column T) → (joined time c old).ticks ≡ old.ticks
  joined-ticks old c = ticks-to old.ticks old.earlier c old.latest

  -- ---- an item more

  pub added-stands : (old : Columns T) (items : List T) (item : T) → IsThinned time items old
      → length (columns old) < 202 → All (λ x. time x ≤ time item) items
      → IsThinned time (items ++ item ∷ []) (joined time (record { before = 0; last = item }) old)
  added-stands old items item is room late =
      let c : Column T = record { before = 0; last = item } in
      let few = joined-few old c in
      record {
        columns_are = subst (λ w. AreColumns time w (items ++ item ∷ []) (columns (joined time c old)))
            (sym (joined-ticks old c))
            (joined-stands old items (item ∷ []) c is.columns_are is.none (one-column time old.ticks item)
            (All-weaker (λ (x : T). time x ≤ time item) (λ (x : T). time x / old.ticks ≤ time item / old.ticks)
            (λ x less. div-less old.ticks (time x) (time item) less) items late));
        few = omega (arith, few, room);
        none = λ none. absurd (joined-latest old c none);
      }

  -- ---- wider columns

  pub wider-none : (w : ℕ) → IsWider time w [] (record { ticks = w * 2; earlier = []; latest = None })
  wider-none w = record {
    ticks_are = refl;
    stands = λ items are. are;
    few = omega arith;
    none = λ none. refl;
  }

  pub wider-more : (w : ℕ) (cs : List (Column T)) (c : Column T) (kept : Columns T) → IsWider time w cs kept
      → IsWider time w (cs ++ c ∷ []) (joined time c kept)
  wider-more w cs c kept is =
      let more = joined-few kept c in
      let had = is.few in
      let whole = length-append cs (c ∷ []) in
      record {
        ticks_are = joined-ticks kept c ∙ is.ticks_are;
        stands = λ items are. one items (apart time w items cs c are);
        few = omega (arith, more, had, whole);
        none = λ none. absurd (joined-latest kept c none);
      }
    where
      empty : (front : List T) → AreColumns time w front cs → cs ≡ [] → front ≡ []
      empty front are none = subst (λ (ds : List (Column T)). AreColumns time w front ds) none are

      one : (items : List T) → IsApart time w items cs c
          → AreColumns time (w * 2) items (columns (joined time c kept))
      one items a =
          subst (λ (xs : List T). AreColumns time (w * 2) xs (columns (joined time c kept))) (sym a.parts)
          (subst (λ v. AreColumns time v (a.front ++ a.own) (columns (joined time c kept))) is.ticks_are
          (joined-stands kept a.front a.own c
          (subst (λ v. AreColumns time v a.front (columns kept)) (sym is.ticks_are) (is.stands a.front a.columns))
          (λ none. empty a.front a.columns (is.none none))
          (subst (λ v. IsColumn time v a.own c) (sym is.ticks_are) (wider-column time w a.own c a.column))
          (subst (λ v. All (λ x. time x / v ≤ time c.last / v) a.front) (sym is.ticks_are)
          (All-weaker (λ (x : T). time x / w < time c.last / w)
          (λ (x : T). time x / (w * 2) ≤ time c.last / (w * 2))
          (λ x less. wider-le w (time x) (time c.last) (omega (arith, less))) a.front a.less))))

  pub wider-whole : (old new : Columns T) → IsWider time old.ticks (columns old) new → IsWidened time old new
  wider-whole old new is items stands =
      let had = is.few in
      let few = stands.few in
      record {
        columns_are = subst (λ v. AreColumns time v items (columns new)) (sym is.ticks_are)
            (is.stands items stands.columns_are);
        few = omega (arith, had, few);
        none = λ none. subst (λ (cs : List (Column T)). AreColumns time old.ticks items cs) (is.none none)
            stands.columns_are;
      }

  -- ---- the last item

  last-one : (w : ℕ) (items : List T) (earlier : List (Column T)) (c : Column T)
      → AreColumns time w items (earlier ++ c ∷ []) → (front : List T) × (items ≡ front ++ c.last ∷ [])
  last-one w items earlier c are =
      let a = apart time w items earlier c are in (
        a.front ++ a.column.before,
        a.parts ∙ ap (λ (xs : List T). a.front ++ xs) a.column.items_are
            ∙ sym (append_assoc a.front a.column.before (c.last ∷ [])),
      )

  -- ---- what the calls give

  pub wider-join : (w : ℕ) (before : List (Column T)) (c : Column T) (o : Option (Column T)) (old new : Columns T)
      (r : Result (Unit {0}) AllocError) → o ≡ Some c → IsWider time w before old
      → OnOk r (new ≡ joined time c old) → OnOk r (IsWider time w (before ++ option_to_list o) new)
  wider-join w before c o old new (Ok done) there is same =
      subst (λ (p : Option (Column T)). IsWider time w (before ++ option_to_list p) new) (sym there)
      (subst (λ (k : Columns T). IsWider time w (before ++ c ∷ []) k) (sym same) (wider-more w before c old is))
  wider-join w before c o old new (Err e) there is same = tt

  pub wider-next : (w : ℕ) (before front next : List (Column T)) (c : Column T) (old new : Columns T)
      → next ≡ front ++ c ∷ [] → IsWider time w (before ++ front) old → new ≡ joined time c old
      → IsWider time w (before ++ next) new
  wider-next w before front next c old new one is same =
      subst (λ (cs : List (Column T)). IsWider time w cs new)
      (append_assoc before front (c ∷ []) ∙ ap (λ (cs : List (Column T)). before ++ cs) (sym one))
      (subst (λ (k : Columns T). IsWider time w ((before ++ front) ++ c ∷ []) k) (sym same)
      (wider-more w (before ++ front) c old is))

  -- the last item, where there is a latest column
  pub last-of : (w : ℕ) (items : List T) (earlier : List (Column T)) (latest : Option (Column T))
      (c : Column T) → latest ≡ Some c → AreColumns time w items (earlier ++ option_to_list latest)
      → (front : List T) × (items ≡ front ++ c.last ∷ [])
  last-of w items earlier latest c is are =
      last-one w items earlier c
      (subst (λ (o : Option (Column T)). AreColumns time w items (earlier ++ option_to_list o)) is are)

  -- ---- the last item becomes another one

  ends-alike : (xs ys : List T) (x y : T) → xs ++ x ∷ [] ≡ ys ++ y ∷ [] → (xs ≡ ys) × (x ≡ y)
  ends-alike [] [] x y is = (refl, cc is)
  ends-alike [] (z ∷ []) x y is = absurd (cc is)
  ends-alike [] (z ∷ u ∷ ys) x y is = absurd (cc is)
  ends-alike (z ∷ []) [] x y is = absurd (cc is)
  ends-alike (z ∷ u ∷ xs) [] x y is = absurd (cc is)
  ends-alike (u ∷ xs) (z ∷ ys) x y is =
      let rest = ends-alike xs ys x y (cc is) in
      (ap-cons u z xs ys (cc is) rest.0, rest.1)
    where
      ap-cons : (u z : T) (xs ys : List T) → u ≡ z → xs ≡ ys → u ∷ xs ≡ z ∷ ys
      ap-cons u z xs ys a b = cc (a, b)

  not-empty : (xs : List T) (x : T) → xs ++ x ∷ [] ≡ [] → ⊥
  not-empty [] x is = cc is
  not-empty (y ∷ xs) x is = cc is

  renewed-columns : (w : ℕ) (front : List T) (x item : T) (earlier : List (Column T)) (c : Column T)
      → time item ≡ time x → AreColumns time w (front ++ x ∷ []) (earlier ++ c ∷ [])
      → AreColumns time w (front ++ item ∷ []) (earlier ++ record { before = c.before; last = item } ∷ [])
  renewed-columns w front x item earlier c at are =
      let a = apart time w (front ++ x ∷ []) earlier c are in
      let whole : front ++ x ∷ [] ≡ (a.front ++ a.column.before) ++ c.last ∷ [] =
      a.parts ∙ ap (λ (xs : List T). a.front ++ xs) a.column.items_are
      ∙ sym (append_assoc a.front a.column.before (c.last ∷ [])) in
      let same = ends-alike front (a.front ++ a.column.before) x c.last whole in
      let now : time c.last ≡ time item = ap time (sym same.1) ∙ sym at in
      let own : IsColumn time w (a.column.before ++ item ∷ []) (record { before = c.before; last = item }) = record {
        before = a.column.before;
        items_are = refl;
        counted = a.column.counted;
        together = subst (λ n. All (λ x. time x / w ≡ n / w) a.column.before) now a.column.together;
      } in
      subst (λ (xs : List T). AreColumns time w xs (earlier ++ record { before = c.before; last = item } ∷ []))
      (sym (append_assoc a.front a.column.before (item ∷ []))
      ∙ ap (λ (xs : List T). xs ++ item ∷ []) (sym same.0))
      (behind time w a.front (a.column.before ++ item ∷ []) earlier (record { before = c.before; last = item })
      a.columns own (subst (λ n. All (λ x. time x / w < n / w) a.front) now a.less))

  pub renewed-stands : (old : Columns T) (front : List T) (x item : T) → IsThinned time (front ++ x ∷ []) old
      → time item ≡ time x → IsThinned time (front ++ item ∷ []) (renewed item old)
  renewed-stands old front x item is at = go old.latest is.columns_are is.few is.none
    where
      go : (latest : Option (Column T))
          → AreColumns time old.ticks (front ++ x ∷ []) (old.earlier ++ option_to_list latest)
          → length (old.earlier ++ option_to_list latest) ≤ 202
          → (latest ≡ None → front ++ x ∷ [] ≡ [])
          → IsThinned time (front ++ item ∷ [])
          (record { ticks = old.ticks; earlier = old.earlier; latest = renewed_latest item latest })
      go None are few none = absurd (not-empty front x (none refl))
      go (Some c) are few none =
          let d : Column T = record { before = c.before; last = item } in
          let one = length-append old.earlier (c ∷ []) in
          let two = length-append old.earlier (d ∷ []) in
          record {
            columns_are = renewed-columns old.ticks front x item old.earlier c at are;
            few = omega (arith, one, two, few);
            none = λ none. absurd (cc none);
          }

  pub wider-parts : (w : ℕ) (xs ys : List (Column T)) (o p : Option (Column T)) (new : Columns T) → xs ≡ ys → o ≡ p
      → IsWider time w (xs ++ option_to_list o) new → IsWider time w (ys ++ option_to_list p) new
  wider-parts w xs ys o p new same alike is =
      subst (λ (zs : List (Column T)). IsWider time w (zs ++ option_to_list p) new) same
      (subst (λ (q : Option (Column T)). IsWider time w (xs ++ option_to_list q) new) alike is)

  pub added-by : (mid new : Columns T) (items : List T) (item : T) (r : Result (Unit {0}) AllocError)
      → IsThinned time items mid → length (columns mid) < 202 → All (λ x. time x ≤ time item) items
      → OnOk r (new ≡ joined time (record { before = 0; last = item }) mid)
      → OnOk r (IsThinned time (items ++ item ∷ []) new)
  added-by mid new items item (Ok done) is room late same =
      subst (λ (k : Columns T). IsThinned time (items ++ item ∷ []) k) (sym same)
      (added-stands mid items item is room late)
  added-by mid new items item (Err e) is room late same = tt
