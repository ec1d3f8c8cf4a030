-- Whether a station still has to tick in the round that stands open, as a number; and ticks as
-- numbers.
use Rattle.std.specs.Prelude.{ℕ, ◌==◌, Bool, true, false, if◌then◌else◌, List, [], ◌∷◌, Option}
use Rattle.std.specs.Prelude.{Some, None}
use Rattle.std.specs.List.{list_any}
use Rattle.lan_core.specs.declared.event.Event.{Event}
use Rattle.lan_core.specs.declared.event.Event.TheVariants as events
use Rattle.lan_core.specs.Run.{Run}
use Rattle.group_safety.specs.Rounds.{Pace, Since, pace}

abbrev pub bit : Bool → ℕ
bit true = 1
bit false = 0

abbrev pub has : ℕ → List ℕ → Bool
has u stations = list_any (λ s. s == u) stations

abbrev pub waits_in : ℕ → Option Pace → ℕ
waits_in u None = 0
waits_in u (Some p) = bit (has u p.waiting)

unfoldable pub waits : Since → ℕ → Run → ℕ
waits from u r = waits_in u (pace from r)

-- an event is a tick of the station, 1, or not
abbrev pub tick_of : ℕ → Event → ℕ
tick_of u (events.Tick s next) = if s == u then 1 else 0
tick_of u _ = 0

-- the last event of a run is
unfoldable pub last_tick : ℕ → Run → ℕ
last_tick u [] = 0
last_tick u (x ∷ r) = tick_of u x.event
