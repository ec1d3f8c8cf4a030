-- The frames of a race in the order of its events.
use Rattle.std.specs.Prelude.{ℕ, zero, suc, ◌-◌, List, [], ◌∷◌, ◌++◌, Option, Some, None, slice_get}
use Rattle.std.specs.Prelude.{option_and_then}
use Rattle.lan_base.specs.declared.frame.Protected.{Protected}
use Rattle.lan_core.specs.declared.event.Event.{Event}
use Rattle.lan_core.specs.declared.event.Event.TheVariants as events
use Rattle.data_workers.specs.declared.entry.Entry.{Entry}
use Rattle.data_workers.specs.declared.entry.Entry.TheVariants.{Taken, Refused}

abbrev pub first_of : List Entry → Option Entry
first_of [] = None
first_of (e ∷ log) = Some e

abbrev pub rest_of : List Entry → List Entry
rest_of [] = []
rest_of (e ∷ log) = log

-- the frame of an entry that got a number
abbrev pub frame_in : Option Entry → List Protected
frame_in None = []
frame_in (Some (Taken p)) = p ∷ []
frame_in (Some (Refused s why)) = []

-- the next entry of the log at a place, and the logs without it
abbrev pub next_entry : ℕ → List (List Entry) → Option Entry
next_entry place logs = option_and_then first_of (slice_get logs place)

abbrev pub without_next : ℕ → List (List Entry) → List (List Entry)
without_next place [] = []
without_next zero (log ∷ logs) = rest_of log ∷ logs
without_next (suc n) (log ∷ logs) = log ∷ without_next n logs

-- what an event takes: a claim the next entry of the log of its user frame
abbrev pub taken_by : Event → List (List Entry) → List Protected
taken_by (events.Claim s user pn) logs = frame_in (next_entry (user - 1) logs)
taken_by _ logs = []

abbrev pub left_by : Event → List (List Entry) → List (List Entry)
left_by (events.Claim s user pn) logs = without_next (user - 1) logs
left_by _ logs = logs

-- the frames of claims that got a number, in the order of the events
unfoldable pub frames_of : List Event → List (List Entry) → List Protected
frames_of [] logs = []
frames_of (e ∷ later) logs = taken_by e logs ++ frames_of later (left_by e logs)
