-- Acts are done one after the other.
use Rattle.std.proofs.Common.{◌≡◌, ℕ, zero, suc, ◌+◌, ◌-◌, ◌<◌, ◌≤◌, List, [], ◌∷◌, ◌++◌, length}
use Rattle.std.proofs.Common.{drop, get_or, drop-cons, refl, sym, ap, ◌∙◌, subst, add-one, arith}
use Rattle.std.specs.Prelude.{Result, Ok, Err}
use Rattle.std.specs.Result.{IsErrAnd}
use Rattle.std.proofs.lemmas.Result.{err_from_is_err_and}
use Rattle.trace_acts.specs.declared.halt.Halt.{Halt}
use Rattle.trace_acts.specs.Acts.{Act, nothing, seq, span, each}
use Rattle.trace_acts.specs.Acts.{Course, Goes, Stops, Rules, World, and_then, perform}

-- ---- what comes first

module _ {R C E X B : Type 0} where
  -- a span begins with its first
  pub span-next : (f : ℕ → Act R C E X B) (i n : ℕ) → i < n
      → span f i (n - i) ≡ seq (f i) (span f (i + 1) (n - (i + 1)))
  span-next f i n lt =
      let e : n - i ≡ suc (n - (i + 1)) = omega arith in
      ap (λ (k : ℕ). span f i k) e ∙ ap (λ (k : ℕ). seq (f i) (span f k (n - (i + 1))))
      (sym (add-one i))

  pub span-done : (f : ℕ → Act R C E X B) (i n : ℕ) → n ≤ i → span f i (n - i) ≡ nothing
  span-done f i n le = let e : n - i ≡ 0 = omega arith in ap (λ (k : ℕ). span f i k) e

drop-past : (xs : List ℕ) (i : ℕ) → length xs ≤ i → drop i xs ≡ []
drop-past [] zero le = refl
drop-past [] (suc i) le = refl
drop-past (x ∷ xs) zero le = absurd (omega arith)
drop-past (x ∷ xs) (suc i) le = drop-past xs i (omega arith)

drop-one : (xs : List ℕ) (i : ℕ) → i < length xs
    → drop i xs ≡ get_or xs i 0 ∷ drop (i + 1) xs
drop-one xs i lt = rw (add-one, drop-cons xs i 0) refl

-- ---- one for each item

and-assoc : {W : Type 0} (out : Course W) (g h : W → Course W)
    → and_then out (λ v. and_then (g v) h) ≡ and_then (and_then out g) h
and-assoc (Goes w) g h = refl
and-assoc (Stops w why) g h = refl

pub each-append : {R C E X B A : Type 0} (rules : Rules R C E X B) (f : A → Act R C E X B)
    (xs ys : List A) (w : World R C)
    → perform rules (each f (xs ++ ys)) w ≡ perform rules (seq (each f xs) (each f ys)) w
each-append rules f [] ys w = refl
each-append {R = R} {C = C} rules f (x ∷ xs) ys w =
    ap (λ (g : World R C → Course (World R C)). and_then (perform rules (f x) w) g)
    (λ i v. each-append rules f xs ys v i)
    ∙ and-assoc (perform rules (f x) w) (λ v. perform rules (each f xs) v)
    (λ v. perform rules (each f ys) v)

-- ---- what is left

-- a call of which this holds with an error holds with what a `?` hands on
pub handed-on : {A M H : Type 0} (Did : A → M → M → Result (Unit {0}) H → Type 0) (act : A)
    (old new : M) (e : H) (r : Result (Unit {0}) H) → Did act old new (Err e)
    → IsErrAnd r (λ y. y ≡ e) → Did act old new r
handed-on {H = H} Did act old new e r d is =
    let p = err_from_is_err_and r is in
    subst (λ (r : Result (Unit {0}) H). Did act old new r) (sym (p.1 ∙ ap (λ (y : H). Err y) p.2)) d

-- whatever calls do of acts, they do one after the other
pub record IsInTurn {R C E X B M : Type 0}
    (Did : Act R C E X B → M → M → Result (Unit {0}) Halt → Type 0) : Type 0 where
  pub none : (now : M) → Did nothing now now (Ok tt)
  pub early : (f g : Act R C E X B) (old new : M) (e : Halt) → Did f old new (Err e)
      → Did (seq f g) old new (Err e)
  pub both : (f g : Act R C E X B) (old mid new : M) (r : Result (Unit {0}) Halt)
      → Did f old mid (Ok tt) → Did g mid new r → Did (seq f g) old new r

-- what is left of an act, done from here, is the whole act done from the start
pub record Leads {R C E X B M : Type 0}
    (Did : Act R C E X B → M → M → Result (Unit {0}) Halt → Type 0) (whole : Act R C E X B) (old : M)
    (left : Act R C E X B) (now : M) : Type 0 where
  pub turn : IsInTurn Did
  pub leads : (new : M) (r : Result (Unit {0}) Halt) → Did left now new r → Did whole old new r

module _ {R C E X B M : Type 0} {Did : Act R C E X B → M → M → Result (Unit {0}) Halt → Type 0}
  where
    pub leads-start : IsInTurn Did → (f : Act R C E X B) (now : M) → Leads Did f now f now
    leads-start turn f now = record { turn = turn; leads = λ new r d. d }

    pub leads-step : (f g h : Act R C E X B) (old now next : M) → Leads Did f old (seq h g) now
        → Did h now next (Ok tt) → Leads Did f old g next
    leads-step f g h old now next l d = record {
      turn = l.turn;
      leads = λ new r e. l.leads new r (l.turn.both h g now next new r d e);
    }

    pub leads-err : (f g h : Act R C E X B) (old now next : M) (e : Halt)
        → Leads Did f old (seq h g) now → Did h now next (Err e) → Did f old next (Err e)
    leads-err f g h old now next e l d = l.leads next (Err e) (l.turn.early h g now next e d)

    pub leads-end : (f : Act R C E X B) (old now : M) → Leads Did f old nothing now
        → Did f old now (Ok tt)
    leads-end f old now l = l.leads now (Ok tt) (l.turn.none now)

    pub span-start : IsInTurn Did → (f : ℕ → Act R C E X B) (n : ℕ) (now : M)
        → Leads Did (span f 0 n) now (span f 0 (n - 0)) now
    span-start turn f n now =
        let e : n - 0 ≡ n = omega arith in rw e (leads-start turn (span f 0 n) now)

    pub span-step : (f : ℕ → Act R C E X B) (i n : ℕ) (whole : Act R C E X B) (old now next : M)
        → i < n → Leads Did whole old (span f i (n - i)) now → Did (f i) now next (Ok tt)
        → Leads Did whole old (span f (i + 1) (n - (i + 1))) next
    span-step f i n whole old now next lt l d =
        leads-step whole _ (f i) old now next
        (subst (λ (a : Act R C E X B). Leads Did whole old a now) (span-next f i n lt) l) d

    -- the exit of a `?`
    pub span-exit : (f : ℕ → Act R C E X B) (i n : ℕ) (whole : Act R C E X B) (old now next : M)
        (e : Halt) (r : Result (Unit {0}) Halt) → i < n
        → Leads Did whole old (span f i (n - i)) now → Did (f i) now next (Err e)
        → IsErrAnd r (λ y. y ≡ e) → Did whole old next r
    span-exit f i n whole old now next e r lt l d is =
        handed-on Did whole old next e r (leads-err whole _ (f i) old now next e
        (subst (λ (a : Act R C E X B). Leads Did whole old a now) (span-next f i n lt) l) d) is

    pub span-end : (f : ℕ → Act R C E X B) (i n : ℕ) (whole : Act R C E X B) (old now : M) → n ≤ i
        → Leads Did whole old (span f i (n - i)) now → Did whole old now (Ok tt)
    span-end f i n whole old now le l =
        leads-end whole old now
        (subst (λ (a : Act R C E X B). Leads Did whole old a now) (span-done f i n le) l)

    -- each begins with its first
    pub each-step : (f : ℕ → Act R C E X B) (xs : List ℕ) (i : ℕ) (whole : Act R C E X B)
        (old now next : M) → i < length xs → Leads Did whole old (each f (drop i xs)) now
        → Did (f (get_or xs i 0)) now next (Ok tt)
        → Leads Did whole old (each f (drop (i + 1) xs)) next
    each-step f xs i whole old now next lt l d =
        leads-step whole _ (f (get_or xs i 0)) old now next
        (subst (λ (ys : List ℕ). Leads Did whole old (each f ys) now) (drop-one xs i lt) l) d

    pub each-err : (f : ℕ → Act R C E X B) (xs : List ℕ) (i : ℕ) (whole : Act R C E X B)
        (old now next : M) (e : Halt) (r : Result (Unit {0}) Halt) → i < length xs
        → Leads Did whole old (each f (drop i xs)) now → Did (f (get_or xs i 0)) now next (Err e)
        → IsErrAnd r (λ y. y ≡ e) → Did whole old next r
    each-err f xs i whole old now next e r lt l d is =
        handed-on Did whole old next e r (leads-err whole _ (f (get_or xs i 0)) old now next e
        (subst (λ (ys : List ℕ). Leads Did whole old (each f ys) now) (drop-one xs i lt) l) d) is

    pub each-end : (f : ℕ → Act R C E X B) (xs : List ℕ) (i : ℕ) (whole : Act R C E X B) (old now : M)
        → length xs ≤ i → Leads Did whole old (each f (drop i xs)) now → Did whole old now (Ok tt)
    each-end f xs i whole old now le l =
        leads-end whole old now
        (subst (λ (ys : List ℕ). Leads Did whole old (each f ys) now) (drop-past xs i le) l)
