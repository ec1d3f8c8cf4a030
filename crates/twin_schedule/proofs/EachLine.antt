-- A replay does lines one after the other.
use Rattle.std.proofs.Common.{◌≡◌, ℕ, List, [], ◌∷◌, ◌++◌, refl, sym, subst}
use Rattle.std.specs.Prelude.{Result, Ok, Err}
use Rattle.trace_acts.specs.declared.halt.Halt.{Halt}
use Rattle.lan_base.specs.declared.sink.Unwritten.{Unwritten}
use Rattle.trace_acts.proofs.Public.{each-append as append-each}
use Rattle.twin_schedule.specs.declared.commands.TwinReplay.{TwinReplay}
use Rattle.twin_schedule.specs.World.{World}
use Rattle.twin_schedule.specs.Acts.{Act, and_then, Course, nothing, perform, rules, seq}
use Rattle.twin_schedule.specs.Lines.{performed, performed_all}
use Rattle.twin_schedule.specs.Reports.{Report}
use Rattle.twin_schedule.specs.Ends.{Moment, Ends}
use Rattle.twin_schedule.specs.Standing.{StandsFor, Does}
use Rattle.twin_schedule.proofs.Doing.{ends-behind, ends-early, told-none}

pub each-append : (xs ys : List (List ℕ)) (w : World)
    → perform (performed_all (xs ++ ys)) w ≡ perform (seq (performed_all xs) (performed_all ys)) w
each-append xs ys w = append-each rules performed xs ys w

module _ {K : Type 0} {Took : K → Report → K → Type 0} {Broke : K → Report → K → Unwritten → Type 0}
  where
    same-does : (f g : Act) (old new : Moment TwinReplay K) (r : Result (Unit {0}) Halt)
        → ((w : World) → perform f w ≡ perform g w) → Does Took Broke g old new r
        → Does Took Broke f old new r
    same-does f g old new r same d = record {
      ends = λ w reached.
          subst (λ (out : Course). Ends StandsFor Took Broke w out old.outlet new r) (sym (same w))
          (d.ends w reached);
    }

    err-does : (f g : Act) (old new : Moment TwinReplay K) (e : Halt)
        → Does Took Broke f old new (Err e) → Does Took Broke (seq f g) old new (Err e)
    err-does f g old new e d = record {
      ends = λ w reached.
          ends-early StandsFor Took Broke w (perform f w) g old.outlet new e (d.ends w reached);
    }

    both-do : (f g : Act) (old mid new : Moment TwinReplay K) (r : Result (Unit {0}) Halt)
        → Does Took Broke f old mid (Ok tt) → Does Took Broke g mid new r
        → Does Took Broke (seq f g) old new r
    both-do f g old mid new r d e = record {
      ends = λ w reached.
          let first = d.ends w reached in
          subst (λ (out : Course). Ends StandsFor Took Broke w (and_then out (λ v. perform g v))
          old.outlet new r) (sym first.1)
          (ends-behind StandsFor Took Broke w first.0 (perform g first.0) old.outlet mid.outlet new r
          first.3 (e.ends first.0 first.2));
    }

    pub does-none : (now : Moment TwinReplay K) → Does Took Broke nothing now now (Ok tt)
    does-none now = record {
      ends = λ w reached. (w, refl, reached, told-none w w now.outlet now.outlet refl refl);
    }

    pub does-more : (a b c : Moment TwinReplay K) (xs ys : List (List ℕ))
        (r : Result (Unit {0}) Halt) → Does Took Broke (performed_all xs) a b (Ok tt)
        → Does Took Broke (performed_all ys) b c r → Does Took Broke (performed_all (xs ++ ys)) a c r
    does-more a b c xs ys r d e =
        same-does _ _ a c r (λ w. each-append xs ys w)
        (both-do (performed_all xs) (performed_all ys) a b c r d e)

    pub does-early : (a b : Moment TwinReplay K) (xs ys : List (List ℕ)) (e : Halt)
        → Does Took Broke (performed_all xs) a b (Err e)
        → Does Took Broke (performed_all (xs ++ ys)) a b (Err e)
    does-early a b xs ys e d =
        same-does _ _ a b (Err e) (λ w. each-append xs ys w)
        (err-does (performed_all xs) (performed_all ys) a b e d)

    -- one line
    pub one-does : (text : List ℕ) (a b : Moment TwinReplay K) (r : Result (Unit {0}) Halt)
        → Does Took Broke (performed text) a b r → Does Took Broke (performed_all (text ∷ [])) a b r
    one-does text a b (Ok done) d = both-do (performed text) nothing a b b (Ok tt) d (does-none b)
    one-does text a b (Err e) d = err-does (performed text) nothing a b e d
