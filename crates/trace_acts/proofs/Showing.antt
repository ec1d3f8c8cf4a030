-- What was shown stays.
use Rattle.std.proofs.Common.{List}
use Rattle.trace_acts.specs.Acts.{Act, nothing, refuse, exceed, happen, change, seq, look, race}
use Rattle.trace_acts.specs.Acts.{Course, Goes, Stops, Rules, World, and_then, perform}
use Rattle.trace_acts.specs.Tellings.{Begins, reported}
use Rattle.trace_acts.proofs.Telling.{begins-self, begins-then}

pub then-begins : {R C P : Type 0} (reports : R → List P) (xs : List P) (out : Course (World R C))
    (g : World R C → Course (World R C)) → Begins xs (reported reports out)
    → ((v : World R C) → Begins (reports v.run) (reported reports (g v)))
    → Begins xs (reported reports (and_then out g))
then-begins reports xs (Goes w) g f h =
    begins-then xs (reports w.run) (reported reports (g w)) f (h w)
then-begins reports xs (Stops w halt) g f h = f

-- events and what goes on beside acts leave what was shown before them
pub record Stays {R C E X B P : Type 0} (rules : Rules R C E X B) (reports : R → List P) : Type 0
  where
    pub happens : (w : World R C) (event : E)
        → Begins (reports w.run) (reported reports (rules.happens w event))
    pub beside : (others : B) (w : World R C) (out : Course (World R C))
        → Begins (reports w.run) (reported reports (rules.beside others w out))

module _ {R C E X B P : Type 0} {rules : Rules R C E X B} {reports : R → List P} where
  pub grows : Stays rules reports → (act : Act R C E X B) (w : World R C)
      → Begins (reports w.run) (reported reports (perform rules act w))
  grows stays nothing w = begins-self (reports w.run)
  grows stays (refuse kind) w = begins-self (reports w.run)
  grows stays (exceed excess) w = begins-self (reports w.run)
  grows stays (happen event) w = stays.happens w event
  grows stays (change f) w = begins-self (reports w.run)
  grows stays (seq f g) w =
      then-begins reports (reports w.run) (perform rules f w) (λ v. perform rules g v)
      (grows stays f w) (λ v. grows stays g v)
  grows stays (look f) w = grows stays (f w) w
  grows stays (race others act) w =
      stays.beside others w (perform rules act (rules.begins others w))

  pub and-longer : Stays rules reports → (out : Course (World R C)) (g : Act R C E X B)
      → Begins (reported reports out) (reported reports (and_then out (λ v. perform rules g v)))
  and-longer stays (Goes w) g = grows stays g w
  and-longer stays (Stops w halt) g = begins-self (reports w.run)
