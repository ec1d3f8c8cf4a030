-- Rows of stations, by place.
use Rattle.std.proofs.Common.{◌≡◌, ◌≢◌, ◌<◌, ℕ, zero, suc, List, [], ◌∷◌, length, Option, Some, None, Result, Ok, Err, ◌∙◌, refl, sym, ap, subst, inl, inr, arith}
use Rattle.std.specs.Prelude.{◌⊎◌, Bool, true, false, ◌==◌, slice_get, set, OnOk, OnErr}
use Rattle.std.proofs.lemmas.Bool.{eqb-true}
use Rattle.lan_base.specs.declared.association_number.AssociationNumber.{AssociationNumber}
use Rattle.std.specs.declared.alloc.AllocError.{AllocError}
use Rattle.lan_core.specs.declared.fact.Fact.{Fact}
use Rattle.lan_core.specs.Run.{place}
use Rattle.key_spans.specs.declared.clock.Clock.{Clock}
use Rattle.key_spans.specs.Standing.{KeptSpans, Rows, row_at, row_in, row_of}
use Rattle.key_spans.specs.inside.Taking.{IsKeptRow, IsLaneAfter, IsLaneKept, TakesAt}

pub set-here : {A : Type 0} (xs : List A) (s : ℕ) (x y : A) → slice_get xs s ≡ Some x
    → slice_get (set xs s y) s ≡ Some y
set-here [] s x y e = absurd (cc e)
set-here (z ∷ xs) zero x y e = refl
set-here (z ∷ xs) (suc s) x y e = set-here xs s x y e

pub set-others : {A : Type 0} (xs : List A) (s t : ℕ) (y : A) → t ≢ s
    → slice_get (set xs s y) t ≡ slice_get xs t
set-others [] s t y apart = refl
set-others (z ∷ xs) zero zero y apart = absurd (apart refl)
set-others (z ∷ xs) zero (suc t) y apart = refl
set-others (z ∷ xs) (suc s) zero y apart = refl
set-others (z ∷ xs) (suc s) (suc t) y apart = set-others xs s t y (λ e. apart (ap suc e))

pub past-none : {A : Type 0} (xs : List A) (t : ℕ) → (t < length xs → ⊥) → slice_get xs t ≡ None
past-none [] t none = refl
past-none (x ∷ xs) zero none = absurd (none (omega arith))
past-none (x ∷ xs) (suc t) none = past-none xs t (λ less. none (omega (arith, less)))

pub same-place : (t s : ℕ) → (t ≡ s) ⊎ (t ≢ s)
same-place t s = go (t == s) refl
  where
    go : (b : Bool) → (t == s) ≡ b → (t ≡ s) ⊎ (t ≢ s)
    go true is = inl (eqb-true t s is)
    go false is = inr (λ e. grind (arith, is, e))

-- rows at a place become others
pub taken-at : (fact : Fact) (old : KeptSpans) (clock : Clock) (s : ℕ) (xs : List Rows) (given new : Rows)
    (result : Result (Unit {0}) AllocError) → record { clock = clock; lanes = xs } ≡ old → s ≡ place fact
    → slice_get xs s ≡ Some given → OnOk result (IsLaneAfter (place fact) clock.ticks fact given new)
    → OnErr result (IsLaneKept clock.ticks given new)
    → TakesAt fact old (record { clock = clock; lanes = set xs s new }) (slice_get old.lanes (place fact)) result
taken-at fact old clock s xs given new result view at found ok err =
    rw (sym view, sym at, found) (go result (subst (λ p. OnOk result (IsLaneAfter p clock.ticks fact given new)) (sym at) ok) err)
  where
    here : (t : ℕ) (an : AssociationNumber) → t ≡ s → IsLaneKept clock.ticks given new
        → IsKeptRow clock.ticks (row_at xs t an) (row_at (set xs s new) t an)
    here t an is kept =
        subst (λ p. IsKeptRow clock.ticks (row_at xs p an) (row_at (set xs s new) p an)) (sym is)
        (subst (λ (o : Option Rows). IsKeptRow clock.ticks (row_of o an) (row_at (set xs s new) s an)) (sym found)
        (subst (λ (o : Option Rows). IsKeptRow clock.ticks (row_in given an) (row_of o an))
        (sym (set-here xs s given new found)) (kept.rows_are an)))

    there : (t : ℕ) (an : AssociationNumber) → t ≢ s
        → IsKeptRow clock.ticks (row_at xs t an) (row_at (set xs s new) t an)
    there t an apart =
        subst (λ (o : Option Rows). IsKeptRow clock.ticks (row_at xs t an) (row_of o an)) (sym (set-others xs s t new apart))
        (λ all by is. is)

    all : (t : ℕ) (an : AssociationNumber) → IsLaneKept clock.ticks given new → (t ≡ s) ⊎ (t ≢ s)
        → IsKeptRow clock.ticks (row_at xs t an) (row_at (set xs s new) t an)
    all t an kept (inl is) = here t an is kept
    all t an kept (inr apart) = there t an apart

    go : (result : Result (Unit {0}) AllocError) → OnOk result (IsLaneAfter s clock.ticks fact given new)
        → OnErr result (IsLaneKept clock.ticks given new)
        → TakesAt fact (record { clock = clock; lanes = xs }) (record { clock = clock; lanes = set xs s new })
        (Some given) result
    go (Ok done) lane none = record {
      then = new;
      lane = subst (λ p. IsLaneAfter p clock.ticks fact given new) at lane;
      clock_is = refl;
      here = subst (λ p. slice_get (set xs s new) p ≡ Some new) at (set-here xs s given new found);
      others = λ t apart. set-others xs s t new (λ e. apart (e ∙ at));
    }
    go (Err error) none kept = record {
      clock_is = refl;
      rows_are = λ t an. all t an kept (same-place t s);
    }
