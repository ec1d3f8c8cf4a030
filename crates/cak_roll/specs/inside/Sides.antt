-- How an event, or a part, of one group is performed among the events of both.
use Rattle.std.specs.Prelude.{◌≡◌, ℕ, ◌+◌, if◌then◌else◌, List, ◌∷◌, ◌++◌}
use Rattle.std.specs.Prelude.{Option, Some, None, option_and_then, Result, Ok, Err}
use Rattle.lan_base.specs.declared.frame.UserFrame.{UserFrame}
use Rattle.lan_core.specs.declared.event.Event.{Event}
use Rattle.lan_core.specs.declared.fact.Fact.{Fact}
use Rattle.lan_core.specs.declared.settings.Settings.{Settings}
use Rattle.lan_core.specs.declared.stop.Stop.{Stop}
use Rattle.lan_core.specs.declared.stop.Stop.TheVariants.{DrawsSpent}
use Rattle.lan_core.specs.declared.stop.StepError.{StepError}
use Rattle.lan_core.specs.Run.{Run, happened}
use Rattle.lan_core.specs.Expected.{expected, drawn_from}
use Rattle.lan_core.specs.Stops.{draws_needed, is_spent}
use Rattle.lan_core.specs.Standing.{Numbers, AreDrawn}
use Rattle.lan_core.specs.Answers.{IsWhy}
use Rattle.cak_roll.specs.declared.event.GroupNumber.{GroupNumber}
use Rattle.cak_roll.specs.declared.told.Told.{Told}
use Rattle.cak_roll.specs.Stepping.{Supply, shown, performed, draws_for, stop_after, part_stop}
use Rattle.cak_roll.specs.Standing.{Side, StandsIn}
use Rattle.cak_roll.specs.Answers.{told_of}

-- ---- stops

-- a stop, unless the draws are spent before
abbrev pub unless_spent : ℕ → Supply → Option Stop → Option Stop
unless_spent count nth stop = if is_spent count nth then Some DrawsSpent else stop

-- the first stop of an event of a group after its run, among the events of both
abbrev pub event_stop : Settings → List UserFrame → Run → Run → Event → Supply → Option Stop
event_stop settings users r both event nth =
    unless_spent (draws_needed settings r event) nth
    (option_and_then (stop_after settings.suite r both) (shown settings users r event nth))

-- the first stop of events of a part
abbrev pub events_stop : Settings → List UserFrame → Run → Run → List Event → Supply → Option Stop
events_stop settings users r both events nth =
    unless_spent (draws_for settings r events) nth
    (part_stop settings.suite settings users r both events nth)

-- a call goes on where there is no stop, and else answers it, or finds no memory
abbrev pub MayStop : Option Stop → Result Unit StepError → Type 0
MayStop stop (Ok _) = stop ≡ None
MayStop stop (Err error) = IsWhy stop error

-- ---- an event

-- it goes on with these facts, and leaves this side, these draws of both, and this supply
pub record EventGoes (settings : Settings) (users : List UserFrame) (r both : Run) (event : Event)
    (before after : Supply) (side : Side) (drawn : Numbers) (facts : List Fact) : Type 0 where
  pub goes : event_stop settings users r both event before ≡ None
  pub shows : expected settings users r event (drawn_from settings.suite before) ≡ Some facts
  pub stands : StandsIn settings users (happened event facts ∷ r) (happened event facts ∷ both) side
  pub noted : AreDrawn settings.suite (happened event facts ∷ both) drawn
  pub taken : (k : ℕ) → after k ≡ before (k + draws_needed settings r event)

-- it goes on, or fails at its first stop, or for want of memory
abbrev pub Happens : Settings → List UserFrame → Run → Run → Event → Supply → Supply → Side
    → Numbers → Result (List Fact) StepError → Type 0
Happens settings users r both event before after side drawn (Ok facts) =
    EventGoes settings users r both event before after side drawn facts
Happens settings users r both event before after side drawn (Err error) =
    IsWhy (event_stop settings users r both event before) error

-- ---- events of a part

pub record EventsGo (g : GroupNumber) (settings : Settings) (users : List UserFrame) (r both : Run)
    (events : List Event) (before after : Supply) (side : Side) (drawn : Numbers)
    (told more : List Told) (ys : Run) : Type 0 where
  pub goes : events_stop settings users r both events before ≡ None
  pub shows : performed settings users r events before ≡ Some ys
  pub tells : more ≡ told ++ told_of g ys
  pub stands : StandsIn settings users (ys ++ r) (ys ++ both) side
  pub noted : AreDrawn settings.suite (ys ++ both) drawn
  pub taken : (k : ℕ) → after k ≡ before (k + draws_for settings r events)

abbrev pub Happen : GroupNumber → Settings → List UserFrame → Run → Run → List Event → Supply
    → Supply → Side → Numbers → List Told → List Told → Result Unit StepError → Type 0
Happen g settings users r both events before after side drawn told more (Ok _) =
    (ys : Run)
    × EventsGo g settings users r both events before after side drawn told more ys
Happen g settings users r both events before after side drawn told more (Err error) =
    IsWhy (events_stop settings users r both events before) error
