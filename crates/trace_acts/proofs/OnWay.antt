-- What lies on the way of acts.
use Rattle.std.proofs.Common.{◌≡◌, List, [], ◌∷◌, ◌++◌, inl, inr, refl, sym, ap, subst}
use Rattle.std.specs.Prelude.{◌⊎◌}
use Rattle.trace_acts.specs.Acts.{Act, nothing, refuse, exceed, happen, change, seq, look, race}
use Rattle.trace_acts.specs.Acts.{Course, Goes, Rules, World, and_then, each, perform, world_of}
use Rattle.trace_acts.specs.Ways.{BeginsAt, IsOnWay}
use Rattle.trace_acts.specs.Tellings.{Begins, reported}
use Rattle.trace_acts.proofs.Acting.{each-append}
use Rattle.trace_acts.proofs.Coming.{halfway, world-in}
use Rattle.trace_acts.proofs.Showing.{and-longer, grows, Stays}
use Rattle.trace_acts.proofs.Telling.{begins-self, begins-then}

module _ {R C E X B : Type 0} (rules : Rules R C E X B) where
  -- ---- acts that come to the same

  -- an act from a world comes to where another does from its world, by whatever that comes by, and its
  -- parts begin wherever that one's do
  abbrev pub IsAs : Act R C E X B → World R C → Act R C E X B → World R C → Type 0
  IsAs f w g v = (perform rules f w ≡ perform rules g v)
      × ((u : World R C) → IsOnWay rules g v u → IsOnWay rules f w u)
      × ((u : World R C) → BeginsAt rules g v u → BeginsAt rules f w u)

  -- behind its first part an act is what is left of it
  pub as-left : (f g : Act R C E X B) (w v : World R C) → perform rules f w ≡ Goes v
      → IsAs (seq f g) w g v
  as-left f g w v goes = (
    ap (λ (out : Course (World R C)). and_then out (λ v. perform rules g v)) goes,
    λ u on. inr (v, goes, on),
    λ u begins. inr (v, goes, begins),
  )

  -- ---- where it begins

  pub way-start : (act : Act R C E X B) (w : World R C) → IsOnWay rules act w w
  way-start nothing w = inl refl
  way-start (refuse kind) w = inl refl
  way-start (exceed excess) w = inl refl
  way-start (happen event) w = inl refl
  way-start (change f) w = inl refl
  way-start (seq f g) w = inl (way-start f w)
  way-start (look f) w = way-start (f w) w
  way-start (race others act) w = inl refl

  pub begins-start : (act : Act R C E X B) (w : World R C) → BeginsAt rules act w w
  begins-start nothing w = refl
  begins-start (refuse kind) w = refl
  begins-start (exceed excess) w = refl
  begins-start (happen event) w = refl
  begins-start (change f) w = refl
  begins-start (seq f g) w = inl (begins-start f w)
  begins-start (look f) w = begins-start (f w) w
  begins-start (race others act) w = refl

  -- where a part begins is on the way
  pub way-begun : (act : Act R C E X B) (w v : World R C) → BeginsAt rules act w v
      → IsOnWay rules act w v
  way-begun nothing w v is = inl is
  way-begun (refuse kind) w v is = inl is
  way-begun (exceed excess) w v is = inl is
  way-begun (happen event) w v is = inl is
  way-begun (change f) w v is = inl is
  way-begun (seq f g) w v (inl begins) = inl (way-begun f w v begins)
  way-begun (seq f g) w v (inr begins) =
      inr (begins.0, begins.1, way-begun g begins.0 v begins.2)
  way-begun (look f) w v begins = way-begun (f w) w v begins
  way-begun (race others act) w v is = inl is

  -- ---- one for each item

  way-append : {A : Type 0} (f : A → Act R C E X B) (xs ys : List A) (w u : World R C)
      → IsOnWay rules (seq (each f xs) (each f ys)) w u → IsOnWay rules (each f (xs ++ ys)) w u
  way-append f [] ys w u (inl (inl is)) =
      subst (λ (x : World R C). IsOnWay rules (each f ys) w x) (sym is) (way-start (each f ys) w)
  way-append f [] ys w u (inl (inr is)) =
      subst (λ (x : World R C). IsOnWay rules (each f ys) w x) (sym is) (way-start (each f ys) w)
  way-append f [] ys w u (inr on) =
      subst (λ (x : World R C). IsOnWay rules (each f ys) x u) (sym (world-in w on.0 on.1)) on.2
  way-append f (x ∷ xs) ys w u (inl (inl on)) = inl on
  way-append f (x ∷ xs) ys w u (inl (inr on)) =
      inr (on.0, on.1, way-append f xs ys on.0 u (inl on.2))
  way-append f (x ∷ xs) ys w u (inr on) =
      let h = halfway (perform rules (f x) w) (λ v. perform rules (each f xs) v) on.0 on.1 in
      inr (h.half, h.first, way-append f xs ys h.half u (inr (on.0, h.then_, on.2)))

  begins-append : {A : Type 0} (f : A → Act R C E X B) (xs ys : List A) (w u : World R C)
      → BeginsAt rules (seq (each f xs) (each f ys)) w u → BeginsAt rules (each f (xs ++ ys)) w u
  begins-append f [] ys w u (inl is) =
      subst (λ (x : World R C). BeginsAt rules (each f ys) w x) (sym is) (begins-start (each f ys) w)
  begins-append f [] ys w u (inr begins) =
      subst (λ (x : World R C). BeginsAt rules (each f ys) x u) (sym (world-in w begins.0 begins.1))
      begins.2
  begins-append f (x ∷ xs) ys w u (inl (inl begins)) = inl begins
  begins-append f (x ∷ xs) ys w u (inl (inr begins)) =
      inr (begins.0, begins.1, begins-append f xs ys begins.0 u (inl begins.2))
  begins-append f (x ∷ xs) ys w u (inr begins) =
      let h = halfway (perform rules (f x) w) (λ v. perform rules (each f xs) v) begins.0 begins.1 in
      inr (h.half, h.first, begins-append f xs ys h.half u (inr (begins.0, h.then_, begins.2)))

  pub as-append : {A : Type 0} (f : A → Act R C E X B) (xs ys : List A) (w : World R C)
      → IsAs (each f (xs ++ ys)) w (seq (each f xs) (each f ys)) w
  as-append f xs ys w = (
    each-append rules f xs ys w,
    λ u on. way-append f xs ys w u on,
    λ u begins. begins-append f xs ys w u begins,
  )

  -- where the first come to is on the way of all
  pub way-front : {A : Type 0} (f : A → Act R C E X B) (xs ys : List A) (w v : World R C)
      → perform rules (each f xs) w ≡ Goes v → IsOnWay rules (each f (xs ++ ys)) w v
  way-front f xs ys w v goes =
      way-append f xs ys w v (inr (v, goes, way-start (each f ys) v))

-- ---- what was shown stays

module _ {R C E X B P : Type 0} {rules : Rules R C E X B} {reports : R → List P} where
  -- what is shown of a world is shown of another, from where a course comes to it
  shown-by : Stays rules reports → (w v : World R C) (act : Act R C E X B)
      → (v ≡ w) ⊎ (v ≡ world_of (perform rules act w))
      → Begins (reports v.run) (reported reports (perform rules act w))
  shown-by stays w v act (inl is) =
      subst (λ (x : World R C). Begins (reports x.run) (reported reports (perform rules act w)))
      (sym is) (grows stays act w)
  shown-by stays w v act (inr is) =
      subst (λ (x : World R C). Begins (reports x.run) (reported reports (perform rules act w)))
      (sym is) (begins-self (reported reports (perform rules act w)))

  -- on the way of an act a front was shown of what it shows
  pub way-begins : Stays rules reports → (act : Act R C E X B) (w v : World R C)
      → IsOnWay rules act w v → Begins (reports v.run) (reported reports (perform rules act w))
  way-begins stays nothing w v on = shown-by stays w v nothing on
  way-begins stays (refuse kind) w v on = shown-by stays w v (refuse kind) on
  way-begins stays (exceed excess) w v on = shown-by stays w v (exceed excess) on
  way-begins stays (happen event) w v on = shown-by stays w v (happen event) on
  way-begins stays (change f) w v on = shown-by stays w v (change f) on
  way-begins stays (seq f g) w v (inl on) =
      begins-then (reports v.run) (reported reports (perform rules f w)) _
      (way-begins stays f w v on) (and-longer stays (perform rules f w) g)
  way-begins stays (seq f g) w v (inr on) =
      subst (λ (out : Course (World R C)).
      Begins (reports v.run) (reported reports (and_then out (λ v. perform rules g v))))
      (sym on.1) (way-begins stays g on.0 v on.2)
  way-begins stays (look f) w v on = way-begins stays (f w) w v on
  way-begins stays (race others act) w v on = shown-by stays w v (race others act) on
