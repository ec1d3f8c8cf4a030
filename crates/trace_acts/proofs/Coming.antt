-- What can be performed in a tidy world.
use Rattle.std.proofs.Common.{◌≡◌, ◌<◌, ◌≤◌, ℕ, zero, suc, ◌+◌, Bool, true, false, List, [], ◌∷◌}
use Rattle.std.proofs.Common.{refl, ap, subst, arith}
use Rattle.std.specs.List.{AllByRecursion}
use Rattle.trace_acts.specs.Acts.{Act, nothing, refuse, exceed, happen, change, seq, look, race}
use Rattle.trace_acts.specs.Acts.{Course, Goes, Stops, Rules, World, and_then, each, perform, span}
use Rattle.trace_acts.specs.Acts.{unless, world_of}
use Rattle.trace_acts.specs.Acts.{Comes, Demands, IsGoing}

pub going : {W : Type 0} (out : Course W) (w : W) (P : W → Type 0) → out ≡ Goes w → IsGoing out P
    → P w
going {W = W} out w P e h = subst (λ (o : Course W). IsGoing o P) e h

pub is-going : {W : Type 0} (out : Course W) (P : W → Type 0) → ((v : W) → out ≡ Goes v → P v)
    → IsGoing out P
is-going (Goes v) P h = h v refl
is-going (Stops v halt) P h = tt

pub world-in : {W : Type 0} (w v : W) → Goes w ≡ Goes v → w ≡ v
world-in {W = W} w v goes = ap (λ (out : Course W). world_of out) goes

-- where two parts were performed, the first was
pub record Halfway {W : Type 0} (out : Course W) (g : W → Course W) (v : W) : Type 0 where
  pub half : W
  pub first : out ≡ Goes half
  pub then_ : g half ≡ Goes v

pub halfway : {W : Type 0} (out : Course W) (g : W → Course W) (v : W) → and_then out g ≡ Goes v
    → Halfway out g v
halfway (Goes w) g v goes = record { half = w; first = refl; then_ = goes }
halfway (Stops w halt) g v goes = absurd (cc goes)

-- ---- later worlds

-- what acts leave is later than where they begin
pub record Lasts {R C E X B : Type 0} (rules : Rules R C E X B) (asks : Demands R C E X B)
    (IsLater : World R C → World R C → Type 0) : Type 0 where
  pub self : (w : World R C) → IsLater w w
  pub then_ : (w v u : World R C) → IsLater w v → IsLater v u → IsLater w u
  pub kept : (w : World R C) (kept : C) → IsLater w (record w { kept = kept })
  pub happens : (w v : World R C) (event : E) → rules.happens w event ≡ Goes v → IsLater w v
  pub beside : (others : B) (w v : World R C) (out : Course (World R C))
      → rules.beside others w out ≡ Goes v → IsLater w v

module _ {R C E X B : Type 0} {rules : Rules R C E X B} {asks : Demands R C E X B}
    {IsLater : World R C → World R C → Type 0} where
  later-to : Lasts rules asks IsLater → (w v u : World R C) → IsLater w v → Goes v ≡ Goes u
      → IsLater w u
  later-to lasts w v u l e = subst (λ (x : World R C). IsLater w x) (world-in v u e) l

  pub later : Lasts rules asks IsLater → (act : Act R C E X B) (w v : World R C)
      → perform rules act w ≡ Goes v → IsLater w v
  later lasts nothing w v e = later-to lasts w w v (lasts.self w) e
  later lasts (refuse kind) w v e = absurd (cc e)
  later lasts (exceed excess) w v e = absurd (cc e)
  later lasts (happen event) w v e = lasts.happens w v event e
  later lasts (change f) w v e =
      later-to lasts w (record w { kept = f w.kept }) v (lasts.kept w (f w.kept)) e
  later lasts (seq f g) w v e =
      let h = halfway (perform rules f w) (λ u. perform rules g u) v e in
      lasts.then_ w h.half v (later lasts f w h.half h.first) (later lasts g h.half v h.then_)
  later lasts (look f) w v e = later lasts (f w) w v e
  later lasts (race others act) w v e =
      lasts.beside others w v (perform rules act (rules.begins others w)) e

  -- ---- many acts

  pub comes-span : Lasts rules asks IsLater → (act : ℕ → Act R C E X B) (i n : ℕ) (w : World R C)
      → asks.IsTidy w
      → ((k : ℕ) (v : World R C) → i ≤ k → k < i + n → IsLater w v → asks.IsTidy v
      → Comes rules asks (act k) v)
      → Comes rules asks (span act i n) w
  comes-span lasts act i zero w tidy h = tt
  comes-span lasts act i (suc n) w tidy h = (
    h i w (omega arith) (omega arith) (lasts.self w) tidy,
    is-going (perform rules (act i) w)
        (λ v. asks.IsTidy v → Comes rules asks (span act (suc i) n) v) (λ v e tidy_v.
        comes-span lasts act (suc i) n v tidy_v
        (λ k u ge lt l tidy_u. h k u (omega arith) (omega arith)
        (lasts.then_ w v u (later lasts (act i) w v e) l) tidy_u)),
  )

  pub comes-each : Lasts rules asks IsLater → {A : Type 0} (P : A → Type 0)
      (act : A → Act R C E X B) (xs : List A) (w : World R C) → asks.IsTidy w → AllByRecursion P xs
      → ((x : A) (v : World R C) → P x → IsLater w v → asks.IsTidy v → Comes rules asks (act x) v)
      → Comes rules asks (each act xs) w
  comes-each lasts P act [] w tidy all h = tt
  comes-each lasts P act (x ∷ xs) w tidy all h = (
    h x w all.0 (lasts.self w) tidy,
    is-going (perform rules (act x) w)
        (λ v. asks.IsTidy v → Comes rules asks (each act xs) v) (λ v e tidy_v.
        comes-each lasts P act xs v tidy_v all.1
        (λ y u py l tidy_u. h y u py (lasts.then_ w v u (later lasts (act x) w v e) l) tidy_u)),
  )

pub comes-unless : {R C E X B : Type 0} (rules : Rules R C E X B) (asks : Demands R C E X B)
    (b : Bool) (act : Act R C E X B) (w : World R C) → (b ≡ false → Comes rules asks act w)
    → Comes rules asks (unless b act) w
comes-unless rules asks true act w h = tt
comes-unless rules asks false act w h = h refl
