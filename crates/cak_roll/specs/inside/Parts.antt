-- What an event of both groups is in one of them, as it is performed there.
use Rattle.std.specs.Prelude.{◌≡◌, ◌==◌, false, List, [], ◌∷◌, Option}
use Rattle.lan_base.specs.declared.frame.UserFrame.{UserFrame}
use Rattle.lan_core.specs.declared.event.Event.{Event}
use Rattle.lan_core.specs.declared.event.Event.TheVariants as events
use Rattle.lan_core.specs.declared.settings.Settings.{Settings}
use Rattle.lan_core.specs.Run.{Run}
use Rattle.lan_core.specs.Stops.{MayCome}
use Rattle.next_numbers.specs.Numbers.{ShowsNext}
use Rattle.cak_roll.specs.declared.part.Part.{Part}
use Rattle.cak_roll.specs.declared.part.Part.TheVariants.{Nothing, One, Sent}

-- its events, newest first
abbrev pub events_of_part : Part → List Event
events_of_part Nothing = []
events_of_part (One event) = event ∷ []
events_of_part (Sent station user pn) =
    events.Emit ∷ events.Claim station user pn ∷ []

-- no foreign octets
abbrev pub IsHomely : Event → Type 0
IsHomely (events.Inject s octets) = ⊥
IsHomely _ = Unit {0}

-- an event of a group may happen there: it may come, and its packet number is the next one
pub record IsReadyEvent (settings : Settings) (users : List UserFrame) (r : Run)
    (given : Option UserFrame) (event : Event) : Type 0 where
  pub may_come : MayCome settings users r given event
  pub homely : IsHomely event
  pub next : ShowsNext settings r event

-- so may a part
abbrev pub IsReadyPart : Settings → List UserFrame → Run → Option UserFrame → Part → Type 0
IsReadyPart settings users r given Nothing = Unit {0}
IsReadyPart settings users r given (One event) = IsReadyEvent settings users r given event
IsReadyPart settings users r given (Sent station user pn) =
    IsReadyEvent settings users r given (events.Claim station user pn) × ((pn == 0) ≡ false)
