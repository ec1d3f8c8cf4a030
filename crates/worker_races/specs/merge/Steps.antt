-- Rust's steps and the logs of workers, as the places see them.
use Rattle.std.specs.Prelude.{◌≡◌, ◌<◌, ℕ, suc, ◌+◌, ◌^◌, ◌==◌, true, false, if◌then◌else◌, List}
use Rattle.std.specs.Prelude.{[], ◌∷◌, ◌++◌}
use Rattle.std.specs.Prelude.{map, All, length, slice_get, Option, Some, option_map}
use Rattle.std.specs.Prelude.{unwrap_or}
use Rattle.std.specs.List.Sorted.{IsNonDecreasingBy}
use Rattle.lan_base.specs.declared.association_number.AssociationNumber.TheVariants.{An0}
use Rattle.lan_core.specs.declared.event.Event.{Event}
use Rattle.lan_core.specs.declared.event.Event.TheVariants as events
use Rattle.lan_core.specs.Run.{happened}
use Rattle.data_workers.specs.declared.entry.Entry.{Entry}
use Rattle.data_workers.specs.declared.entry.Entry.TheVariants.{Taken, Refused}
use Rattle.data_workers.specs.Entries.{epoch_in}
use Rattle.worker_races.specs.declared.merge.step.Step.{Step}
use Rattle.worker_races.specs.declared.merge.rank.Rank.{Rank}
use Rattle.worker_races.specs.merge.Places.{Move, Attempt, place}
use Rattle.worker_races.specs.merge.Marks.{Mark, Control, Claim}
use Rattle.worker_races.specs.merge.Merged.{rank, numbered}
use Rattle.worker_races.specs.merge.Raced.{shown_of}

-- ---- steps

-- the station of an event of control; other events have none
abbrev pub station_of : Event → ℕ
station_of (events.Tick s next) = s
station_of (events.Deliver frame s) = s
station_of (events.Restart s) = s
station_of (events.Inject s octets) = s
station_of _ = 256

abbrev pub move_of : Step → Move
move_of step = record {
  x = happened step.event [];
  station = station_of step.event;
  before = unwrap_or step.before 0;
  after = unwrap_or step.after 0;
  shown = shown_of step.event;
  gap = false;
}

abbrev pub moves_of : List Step → List Move
moves_of steps = map move_of steps

-- a step as it happened
pub record IsStepOf (s : Step) (m : Move) : Type 0 where
  pub event : m.x.event ≡ s.event
  pub before : m.before ≡ unwrap_or s.before 0
  pub after : m.after ≡ unwrap_or s.after 0

abbrev pub AreSteps : List Step → List Move → Type 0
AreSteps [] [] = Unit {0}
AreSteps (s ∷ steps) (m ∷ ms) = IsStepOf s m × AreSteps steps ms
AreSteps _ _ = ⊥

-- ---- logs

-- an entry of the log at a place, from 0
abbrev pub attempt_of : ℕ → Entry → Attempt
attempt_of log (Taken p) = record {
  station = p.station;
  an = p.an;
  epoch = p.epoch;
  refused = false;
  number = p.pn;
  log = log;
}
attempt_of log (Refused s why) = record {
  station = s;
  an = An0;
  epoch = epoch_in why;
  refused = true;
  number = 0;
  log = log;
}

-- the entries of the logs from this place on
abbrev pub logs_of : ℕ → List (List Entry) → List (List Attempt)
logs_of log [] = []
logs_of log (entries ∷ logs) = map (attempt_of log) entries ∷ logs_of (suc log) logs

-- the places along each log never fall
abbrev pub AreRising : List Move → List (List Entry) → Type 0
AreRising moves logs = All (IsNonDecreasingBy (λ e. place (attempt_of 0 e) moves)) logs

-- ---- ranks and events

abbrev pub claim_ranks : List Move → ℕ → List Entry → List Rank
claim_ranks moves log entries = map (λ e. rank moves (Claim (attempt_of log e))) entries

abbrev pub control_ranks : ℕ → List Step → List Rank
control_ranks n steps = map (λ z. rank [] z) (numbered n (moves_of steps))

-- the ranks of the entries of the logs from this place on
abbrev pub ranks_of : List Move → ℕ → List (List Entry) → List Rank
ranks_of moves log [] = []
ranks_of moves log (entries ∷ logs) =
    claim_ranks moves log entries ++ ranks_of moves (suc log) logs

-- the event of a mark: a step's own, or a claim for the user frame of its log, from 1
abbrev pub event_at : List Step → Mark → Option Event
event_at steps (Control n m) = option_map (λ s. s.event) (slice_get steps n)
event_at steps (Claim x) = Some (events.Claim x.station (x.log + 1) x.number)

-- the event of a rank: a step's own, or a claim for the user frame of its log, from 1
abbrev pub event_of_rank : List Step → Rank → Option Event
event_of_rank steps r =
    if r.late == 1 then option_map (λ s. s.event) (slice_get steps r.place)
    else Some (events.Claim r.station (r.log + 1) r.number)

-- a rank of one of these steps, or of a claim whose user frame has a number
abbrev pub IsRankOf : List Step → Rank → Type 0
IsRankOf steps r = (r.late ≡ 1 → r.place < length steps) × (r.log + 1 < 2 ^ 32)

-- an event whose user frames are counted from those that came before
abbrev pub counted_from : ℕ → Event → Event
counted_from base (events.Claim s user pn) = events.Claim s (base + user) pn
counted_from base e = e
