-- How the parts of an event are performed: that in the first group, and then that in the second.
use Rattle.std.specs.Prelude.{◌≡◌, ℕ, ◌+◌, List, ◌++◌, Option, Some, None, option_and_then}
use Rattle.std.specs.Prelude.{Result, Ok, Err}
use Rattle.std.specs.Option.{option_or}
use Rattle.lan_base.specs.declared.frame.UserFrame.{UserFrame}
use Rattle.lan_core.specs.declared.event.Event.{Event}
use Rattle.lan_core.specs.declared.settings.Settings.{Settings}
use Rattle.lan_core.specs.declared.stop.Stop.{Stop}
use Rattle.lan_core.specs.declared.stop.StepError.{StepError}
use Rattle.lan_core.specs.Run.{Run}
use Rattle.lan_core.specs.Standing.{Numbers, AreDrawn}
use Rattle.lan_core.specs.Answers.{IsWhy}
use Rattle.cak_roll.specs.declared.event.GroupNumber.TheVariants.{First, Second}
use Rattle.cak_roll.specs.declared.event.TwinEvent.{TwinEvent}
use Rattle.cak_roll.specs.declared.told.Told.{Told}
use Rattle.cak_roll.specs.Twin.{Pair, Twin, TwinHappening, run_of, merged, events_in}
use Rattle.cak_roll.specs.Stepping.{Supply, behind, performed, draws_for, happening, first_draws, first_part}
use Rattle.cak_roll.specs.Stepping.{twin_draws, twin_stop}
use Rattle.cak_roll.specs.Standing.{Side, IfThere, Held, StandBoth}
use Rattle.cak_roll.specs.Answers.{told_of, told_in}
use Rattle.cak_roll.specs.inside.Sides.{events_stop}

-- ---- the second group, if it is there

-- events of a part go on, and leave this second group, if it is there
pub record ThereGo (settings : Settings) (users : List UserFrame) (r both : Run)
    (events : List Event) (before after : Supply) (second : Option Side) (drawn : Numbers)
    (told more : List Told) (ys : Run) : Type 0 where
  pub goes : events_stop settings users r both events before ≡ None
  pub shows : performed settings users r events before ≡ Some ys
  pub tells : more ≡ told ++ told_of Second ys
  pub stands : IfThere settings users (ys ++ r) (ys ++ both) second
  pub noted : AreDrawn settings.suite (ys ++ both) drawn
  pub taken : (k : ℕ) → after k ≡ before (k + draws_for settings r events)

abbrev pub HappenThere : Settings → List UserFrame → Run → Run → List Event → Supply → Supply
    → Option Side → Numbers → List Told → List Told → Result Unit StepError → Type 0
HappenThere settings users r both events before after second drawn told more (Ok _) =
    (ys : Run) × ThereGo settings users r both events before after second drawn told more ys
HappenThere settings users r both events before after second drawn told more (Err error) =
    IsWhy (events_stop settings users r both events before) error

-- ---- both

-- the first stop of an event whose part in the second group draws after that in the first
abbrev pub turn_stop : Pair → List UserFrame → Twin → TwinEvent → Supply → Option Stop
turn_stop pair users t event nth =
    option_or
    (events_stop pair.first users (run_of First t) (merged t) (events_in pair First t event) nth)
    (option_and_then
    (λ first. events_stop pair.second users (run_of Second t) (first ++ merged t)
    (events_in pair Second t event) (behind (first_draws pair t event) nth))
    (first_part pair users t event nth))

-- both parts are performed, and what they show is told
pub record TurnGoes (pair : Pair) (users : List UserFrame) (t : Twin) (event : TwinEvent)
    (stop : Option Stop) (before after : Supply) (held : Held) (told : List Told)
    (x : TwinHappening) : Type 0 where
  pub goes : stop ≡ None
  pub shows : happening pair users t event before ≡ Some x
  pub tells : told ≡ told_in x
  pub stands : StandBoth pair users (x.first ++ run_of First t) (x.second ++ run_of Second t)
      (x.second ++ (x.first ++ merged t)) held
  pub drawn : (k : ℕ) → after k ≡ before (k + twin_draws pair t event)

-- they are performed where there is no such stop
abbrev pub TurnsUnless : Option Stop → Pair → List UserFrame → Twin → TwinEvent → Supply → Supply
    → Held → Result (List Told) StepError → Type 0
TurnsUnless stop pair users t event before after held (Ok told) =
    (x : TwinHappening) × TurnGoes pair users t event stop before after held told x
TurnsUnless stop pair users t event before after held (Err error) = IsWhy stop error

-- one after the other, each with its draws
abbrev pub Turns : Pair → List UserFrame → Twin → TwinEvent → Supply → Supply → Held
    → Result (List Told) StepError → Type 0
Turns pair users t event before after held result =
    TurnsUnless (turn_stop pair users t event before) pair users t event before after held result

-- the draws of both come first
abbrev pub BothPerform : Pair → List UserFrame → Twin → TwinEvent → Supply → Supply → Held
    → Result (List Told) StepError → Type 0
BothPerform pair users t event before after held result =
    TurnsUnless (twin_stop pair users t event before) pair users t event before after held result
