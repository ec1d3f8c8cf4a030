-- What is kept of control's events in the midst of a race, and what a group at work leaves of it.
use Rattle.std.specs.Prelude.{◌≡◌, ℕ, Bool, true, false, List, [], ◌∷◌, ◌++◌, slice_get}
use Rattle.std.specs.Prelude.{Option, Some, None, is_some, option_map, option_and_then}
use Rattle.atomic_table.specs.Seated.{TableId}
use Rattle.lan_base.specs.declared.frame.UserFrame.{UserFrame}
use Rattle.association_slots.specs.Views.{ControlAt}
use Rattle.lan_core.specs.declared.event.Event.{Event}
use Rattle.lan_core.specs.declared.event.Event.TheVariants as events
use Rattle.lan_core.specs.declared.settings.Settings.{Settings}
use Rattle.lan_core.specs.Run.{Run}
use Rattle.lan_core.specs.Lives.{transmitting_at}
use Rattle.worker_races.specs.declared.merge.step.Step.{Step}
use Rattle.worker_races.specs.merge.Table.{Controls}
use Rattle.station_words.specs.Seats.{NoMoreOut}
use Rattle.station_words.specs.Ties.{tables_of, HaveKeptUp, HaveLooked}
use Rattle.worker_races.specs.Going.{HaveGone}
use Rattle.worker_races.specs.Performed.{ArePerformed, run_after}
use Rattle.trace_acts.specs.declared.halt.Halt.{Halt}
use Rattle.trace_acts.specs.Names.{names_of}
use Rattle.lan_schedule.specs.declared.stage.Stage.{Stage}
use Rattle.lan_schedule.specs.World.{World, is_racing, settings}
use Rattle.lan_schedule.specs.Acts.{is_stop}
use Rattle.lan_schedule.specs.Stages.{StandsFor, Counts}
use Rattle.lan_schedule.specs.Ends.{Standing}

-- ---- one event

-- the station of an event of control
abbrev pub station_in : Event → Option ℕ
station_in (events.Tick s next) = Some s
station_in (events.Deliver frame s) = Some s
station_in (events.Restart s) = Some s
station_in (events.Inject s octets) = Some s
station_in _ = None

abbrev pub is_start : Event → Bool
is_start (events.Start name sci priority) = true
is_start _ = false

-- the epoch of the key that transmits at its station
abbrev pub epoch_of : Settings → Run → Event → Option ℕ
epoch_of settings r event =
    option_and_then (λ s. option_map (λ k. k.epoch) (transmitting_at settings s r)) (station_in event)

-- an event is kept behind those that were kept, where any are
abbrev pub KeepsStep : Event → Option ℕ → Option ℕ → Option (List Step) → Option (List Step)
    → Type 0
KeepsStep event before after old new =
    new ≡ option_map (λ steps. steps ++ record { event = event; before = before; after = after } ∷ [])
    old

-- the steps that a group at work keeps
abbrev pub steps_of : Stage → Option (List Step)
steps_of stage = option_map (λ steps. steps.items) stage.steps

-- ---- all events since a race began

-- the moment in which a race began: the run, and the words, all of whose seats were out
pub record Mark : Type 0 where
  pub run : Run
  pub words : List ControlAt

-- What was performed since, with the words as they are: each event was kept as a step, and told the
-- words what it says.
pub record IsRecorded (mark : Mark) (settings : Settings) (users : List UserFrame) (r : Run)
    (words : List ControlAt) (steps : List Step) : Type 0 where
  pub performed : Controls
  pub run : r ≡ run_after performed mark.run
  pub are : ArePerformed settings users mark.run performed steps
  pub gone : HaveGone settings mark.run performed mark.words words

abbrev pub HasRecorded : Mark → World → List ControlAt → Option (List Step) → Type 0
HasRecorded mark w words None = Unit {0}
HasRecorded mark w words (Some steps) =
    (w.kept.raced ≡ true) × IsRecorded mark (settings w) w.kept.users w.run words steps

-- a group at work stands for a world, and keeps what was performed since a mark
pub record StandsSince (mark : Mark) (w : World) (stage : Stage) : Type 0 where
  pub stands : StandsFor w stage
  pub recorded : HasRecorded mark w stage.words (steps_of stage)

-- The words as a stop of the group leaves them: a tick may have looked at them before it met the
-- stop. Whether the words were to be kept up with says whether steps are kept.
abbrev pub HasLooked : Mark → World → List ControlAt → Option (List Step) → Type 0
HasLooked mark w words None = Unit {0}
HasLooked mark w words (Some steps) = (w.kept.raced ≡ true) × (before : List ControlAt)
    × IsRecorded mark (settings w) w.kept.users w.run before steps
    × HaveKeptUp (settings w) w.run before × HaveLooked before words

-- what a stop of the group leaves
pub record HasStopped (mark : Mark) (w : World) (stage : Stage) : Type 0 where
  pub counts : Counts w stage
  pub looked : HasLooked mark w stage.words (steps_of stage)
  pub names : stage.lan.names ≡ names_of w.run
  pub steps : is_some stage.steps ≡ is_racing w.kept.phase

abbrev pub LeavesBy : Bool → Mark → World → Stage → Type 0
LeavesBy true mark w stage = HasStopped mark w stage
LeavesBy false mark w stage = StandsSince mark w stage

-- what a group at work is where an act stopped in a world: a line that was refused leaves it whole
abbrev pub LeavesAt : Mark → Halt → World → Stage → Type 0
LeavesAt mark halt w stage = LeavesBy (is_stop halt) mark w stage

-- what is said of a group at work that keeps what was performed since a mark
abbrev pub stages_since : Mark → Standing Stage
stages_since mark = record { Stands = StandsSince mark; Leaves = LeavesAt mark; Counts = Counts }

-- ---- the seats of the words

-- each station that has words has the same table still, and no seat is out that was not out before
pub record KeepSeats (old new : List ControlAt) : Type 0 where
  pub tables : (s : ℕ) (table : TableId) → slice_get (tables_of old) s ≡ Some table
      → slice_get (tables_of new) s ≡ Some table
  pub out : NoMoreOut old new
