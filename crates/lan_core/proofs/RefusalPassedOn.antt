-- How the refusal of a part becomes the refusal of a step.
use Rattle.std.proofs.Common.{◌≡◌, ◌⊎◌, ℕ, Bool, true, List, Option, Some, None, Result, Ok, Err, IsErrAnd, inl, inr, refl, sym, subst}
use Rattle.std.specs.Option.{option_or}
use Rattle.lan_base.specs.declared.frame.UserFrame.{UserFrame}
use Rattle.lan_core.specs.declared.event.Event.{Event}
use Rattle.lan_core.specs.declared.fact.Fact.{Fact}
use Rattle.lan_core.specs.declared.settings.Settings.{Settings}
use Rattle.lan_core.specs.declared.stop.Stop.{Stop}
use Rattle.lan_core.specs.declared.stop.Stop.TheVariants.{DrawsSpent}
use Rattle.lan_core.specs.declared.stop.StepError.{StepError}
use Rattle.lan_core.specs.declared.stop.StepError.TheVariants.{Stopped}
use Rattle.mka_station.specs.declared.tick_error.TickError.{TickError}
use Rattle.mka_station.specs.declared.tick_error.TickError.TheVariants as faults
use Rattle.lan_core.specs.inside.Faults.{error_of_fault}
use Rattle.lan_core.specs.Run.{Run}
use Rattle.lan_core.specs.Stops.{first_stop}
use Rattle.lan_core.specs.Standing.{State}
use Rattle.lan_core.specs.Answers.{Answers, IsWhy}
use Rattle.lan_core.specs.inside.Judging.{MayJudge}

-- an error that a part answered, since it says why the step fails
pub refused : (settings : Settings) (users : List UserFrame) (r : Run) (e : Event)
    (before after : ℕ → Option (List ℕ)) (lan : State) (result : Result (List Fact) StepError)
    (error : StepError) → IsErrAnd result (λ given. given ≡ error)
    → IsWhy (first_stop settings users r e before) error
    → Answers settings users r e before after lan result
refused settings users r e before after lan (Ok facts) error is why = absurd is
refused settings users r e before after lan (Err given) error is why =
    subst (λ error. IsWhy (first_stop settings users r e before) error) (sym is) why

-- a stop that a part answered, since it is the first one
pub stopped : (settings : Settings) (users : List UserFrame) (r : Run) (e : Event)
    (before after : ℕ → Option (List ℕ)) (lan : State) (result : Result (List Fact) StepError)
    (stop : Stop) → IsErrAnd result (λ given. given ≡ Stopped stop)
    → first_stop settings users r e before ≡ Some stop
    → Answers settings users r e before after lan result
stopped settings users r e before after lan result stop is first =
    refused settings users r e before after lan result (Stopped stop) is first

-- the first stop is what a part judges
pub by-part : (first part : Option Stop) (error : StepError) → first ≡ part → IsWhy part error
    → IsWhy first error
by-part first part error same why = subst (λ o. IsWhy o error) (sym same) why

-- a part that is judged before others
pub by-first : (first o later : Option Stop) (stop : Stop) → first ≡ option_or o later
    → o ≡ Some stop → first ≡ Some stop
by-first first o later stop is some = rw (is, some) refl

-- a fault of a station
pub refused-fault : (settings : Settings) (users : List UserFrame) (r : Run) (e : Event)
    (before after : ℕ → Option (List ℕ)) (lan : State) (result : Result (List Fact) StepError)
    (fault : TickError) (short : Bool) → IsErrAnd result (λ given. given ≡ error_of_fault fault)
    → (fault ≡ faults.Memory) ⊎ ((fault ≡ faults.DrawsSpent) × (short ≡ true))
    → (short ≡ true → first_stop settings users r e before ≡ Some DrawsSpent)
    → Answers settings users r e before after lan result
refused-fault settings users r e before after lan result fault short is (inl memory) stops =
    refused settings users r e before after lan result (error_of_fault fault) is
    (subst (λ f. IsWhy (first_stop settings users r e before) (error_of_fault f)) (sym memory) tt)
refused-fault settings users r e before after lan result fault short is (inr spent) stops =
    refused settings users r e before after lan result (error_of_fault fault) is
    (subst (λ f. IsWhy (first_stop settings users r e before) (error_of_fault f)) (sym spent.0)
    (stops spent.1))

-- a part that is judged behind another, which found no stop
pub judged-later : (first later : Option Stop) (error : StepError) (result : Result (Unit {0}) StepError)
    → IsErrAnd result (λ given. given ≡ error) → first ≡ None → IsWhy later error
    → MayJudge (option_or first later) result
judged-later first later error (Ok done) is none why = absurd is
judged-later first later error (Err given) is none why =
    subst (λ e. IsWhy (option_or first later) e) (sym is)
    (subst (λ o. IsWhy (option_or o later) error) (sym none) why)
