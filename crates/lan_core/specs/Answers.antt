-- What a step of the group answers: it goes on, or says why not.
use Rattle.std.specs.Prelude.{◌≡◌, ℕ, ◌+◌, List, ◌∷◌, Option, Some, None, Result, Ok, Err}
use Rattle.lan_base.specs.declared.frame.UserFrame.{UserFrame}
use Rattle.lan_core.specs.declared.event.Event.{Event}
use Rattle.lan_core.specs.declared.fact.Fact.{Fact}
use Rattle.lan_core.specs.declared.settings.Settings.{Settings}
use Rattle.lan_core.specs.declared.stop.Stop.{Stop}
use Rattle.lan_core.specs.declared.stop.StepError.{StepError}
use Rattle.lan_core.specs.declared.stop.StepError.TheVariants.{Stopped, Memory}
use Rattle.lan_core.specs.Run.{Run, happened}
use Rattle.lan_core.specs.Expected.{expected, drawn_from}
use Rattle.lan_core.specs.Stops.{draws_needed, first_stop}
use Rattle.lan_core.specs.Standing.{State, StandsFor}

-- a step goes on with these facts, and leaves this group and this supply
pub record GoesOn (settings : Settings) (users : List UserFrame) (r : Run) (event : Event)
    (before after : ℕ → Option (List ℕ)) (lan : State) (facts : List Fact) : Type 0 where
  pub goes : first_stop settings users r event before ≡ None
  pub shows : expected settings users r event (drawn_from settings.suite before) ≡ Some facts
  pub stands : StandsFor settings users lan (happened event facts ∷ r)
  pub drawn : (k : ℕ) → after k ≡ before (k + draws_needed settings r event)

-- why a step fails: it is the first stop, unless memory ran out
abbrev pub IsWhy : Option Stop → StepError → Type 0
IsWhy first (Stopped stop) = first ≡ Some stop
IsWhy first Memory = Unit {0}

-- a step goes on, or fails at the first stop, or for want of memory
abbrev pub Answers : Settings → List UserFrame → Run → Event → (ℕ → Option (List ℕ))
    → (ℕ → Option (List ℕ)) → State → Result (List Fact) StepError → Type 0
Answers settings users r event before after lan (Ok facts) =
    GoesOn settings users r event before after lan facts
Answers settings users r event before after lan (Err error) =
    IsWhy (first_stop settings users r event before) error
