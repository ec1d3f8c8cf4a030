-- The parts of a race: its workers are hired, control's lines are performed beside them, they are
-- dismissed, and what all of them did stands in one run.
use Rattle.std.specs.Prelude.{◌≡◌, ◌⊎◌, ◌+◌, ◌<◌, ◌≤◌, ◌^◌, ℕ, Bool, true, false, List, [], ◌++◌}
use Rattle.std.specs.Prelude.{map, length, All, slice_get, Some, None, Result, Ok, Err, IfOk, ◌∷◌}
use Rattle.std.specs.List.{AllByRecursion}
use Rattle.std.specs.Prelude.{vec_capacity}
use Rattle.std.specs.declared.alloc.AllocError.{AllocError}
use Rattle.association_slots.specs.Views.{ControlAt}
use Rattle.data_workers.specs.declared.entry.Entry.{Entry}
use Rattle.data_workers.specs.Workers.{AreDone, HasTable, WorkerAt}
use Rattle.lan_core.specs.declared.fact.Fact.{Fact}
use Rattle.lan_core.specs.declared.settings.Settings.{Settings}
use Rattle.lan_core.specs.declared.stop.Which.TheVariants.{Frames}
use Rattle.lan_core.specs.Ledgers.{claims}
use Rattle.lan_core.specs.Run.{Run, facts_of}
use Rattle.lan_core.specs.Standing.{scis_in}
use Rattle.lan_core.specs.Types.{IsUserFrame}
use Rattle.fact_tally.specs.Summary.{counts}
use Rattle.station_words.specs.Seats.{AreAllIn, HasNoSeat, IsOut, WasSeated}
use Rattle.worker_races.specs.declared.merge.step.Step.{Step}
use Rattle.station_words.specs.Ties.{tables_of, HaveKeptUp}
use Rattle.worker_races.specs.Going.{HaveJoined, WereSeated}
use Rattle.worker_races.specs.Senders.{AreSenders, IsNew, jobs_of}
use Rattle.trace_acts.specs.declared.halt.Halt.{Halt}
use Rattle.trace_acts.specs.declared.halt.Halt.TheVariants as halts
use Rattle.lan_base.specs.declared.sink.Unwritten.{Unwritten}
use Rattle.lan_schedule.specs.declared.race.Before.{Before}
use Rattle.lan_schedule.specs.declared.race.Crew.{Crew}
use Rattle.lan_schedule.specs.declared.race.Ran.{Ran}
use Rattle.lan_schedule.specs.declared.stage.Stage.{Stage}
use Rattle.lan_schedule.specs.Races.{Burst, Numbered, Worker, Chance}
use Rattle.lan_schedule.specs.Races.{behind_numbers, jobs_in, most_claimed, most_users}
use Rattle.lan_schedule.specs.Races.{workers_at, workers_of}
use Rattle.lan_schedule.specs.World.{World, is_racing}
use Rattle.lan_schedule.specs.Acts.{Course, Goes, Stops, perform, race, begun_race}
use Rattle.lan_schedule.specs.Acts.{is_stop}
use Rattle.trace_text.specs.Limits.{most_workers}
use Rattle.lan_schedule.specs.Lines.{control_act, run_race}
use Rattle.lan_schedule.specs.Reports.{Report, reports}
use Rattle.lan_schedule.specs.Ends.{Moment, moment, IsReached, Ends}
use Rattle.lan_schedule.specs.Sound.{IsTidy}
use Rattle.lan_schedule.specs.Stages.{StandsFor, Counts, stages}
use Rattle.lan_schedule.specs.Woven.{HadMemory, WasBegun, WasWoven, worker_of}
use Rattle.lan_schedule.specs.Standing.{AreBursts}
use Rattle.trace_acts.specs.Names.{names_of}
use Rattle.lan_schedule.specs.inside.Comes.{Comes}
use Rattle.lan_schedule.specs.inside.Recording.{Mark, StandsSince, steps_of}
use Rattle.lan_schedule.specs.inside.Staged.{Did}
use Rattle.lan_schedule.specs.inside.Weaves.{KeepsReport, KeepsNoMore, reports_with}

-- ---- hiring

-- the moment in which a race begins, with all seats out
abbrev pub mark_of : World → Stage → Mark
mark_of w stage = record { run = w.run; words = stage.words }

-- Of a world in which bursts ask for no more than there is: their workers took seats of the words,
-- one behind the other, and the group at work stands for the world in which control is to begin. There
-- are few user frames, and few packet numbers that may be claimed.
pub record AreHired (w : World) (workers : List Worker) (old new : Stage) (crew : List WorkerAt) :
    Type 0 where
  pub are : map worker_of crew ≡ workers
  pub seated : WereSeated crew old.words new.words
  pub senders : AreSenders (begun_race workers w).kept.users w.run (length w.kept.users + 1) crew
  pub fresh : All IsNew crew
  pub stands : StandsSince (mark_of w new) (begun_race workers w) new
  pub tidy : IsTidy (begun_race workers w)
  pub users_few : length (begun_race workers w).kept.users + 1 < 2 ^ 32
  pub claims_few : length (claims w.run) + jobs_of crew + 16 < 2 ^ 32

-- each worker has the handle of its station's table, which is that of the words, and did no job; its
-- log has room with the others
pub record IsReady (stage : Stage) (crew : Crew) : Type 0 where
  pub handles : crew.handles.items ≡ tables_of stage.words
  pub tables : All (HasTable crew.handles.items) crew.workers.items
  pub empty : crew.logs.items ≡ []
  pub room : length crew.workers.items ≤ vec_capacity crew.logs
  pub fresh : All IsNew crew.workers.items

-- All but the words is as it was. These are of the same tables, and kept up with any run that they kept
-- up with before.
pub record HasMoved (old new : Stage) : Type 0 where
  pub same : new ≡ record old { words = new.words }
  pub tables : tables_of new.words ≡ tables_of old.words
  pub keeps_up : (settings : Settings) (r : Run) → HaveKeptUp settings r old.words
      → HaveKeptUp settings r new.words

-- Bursts find seats: each is of a station that there is, no seat of its words is out, and no station
-- is to have more workers than there are seats.
pub record HaveSeats (bursts : List Burst) (stage : Stage) : Type 0 where
  pub stations : AllByRecursion (λ b. b.station < length (scis_in stage.lan)) bursts
  pub few : (s : ℕ) → workers_at s bursts ≤ most_workers
  pub many : length stage.words ≡ length (scis_in stage.lan)
  pub all_in : AreAllIn stage.words

-- the station of a place has no seat left, or isn't there
abbrev pub IsFull : ℕ → Stage → Type 0
IsFull s stage = (slice_get (scis_in stage.lan) s ≡ None) ⊎ HasNoSeat s stage.words

-- the seat with a number, less one, of a station is that of one of these workers
abbrev pub HasSeat : ℕ → ℕ → List WorkerAt → Type 0
HasSeat s i [] = ⊥
HasSeat s i (w ∷ ws) =
    ((w.sender.station ≡ s) × (w.seat.view.number ≡ i + 1)) ⊎ HasSeat s i ws

-- each seat that is out was out before, or is that of one of these workers
abbrev pub OutFor : List WorkerAt → List ControlAt → List ControlAt → Type 0
OutFor crew old new = (s i : ℕ) → IsOut s i new → HasSeat s i crew ⊎ IsOut s i old

-- one of them was: it sends what it was dealt, for a station of these names and SCIs
pub record WasHired (worker : Worker) (old new : Stage) (w : WorkerAt) : Type 0 where
  pub is : worker_of w ≡ worker
  pub seated : WasSeated w.sender.station old.words new.words w.seat
  pub fresh : IsNew w
  pub sendable : IsUserFrame w.sender.user
  pub sci : slice_get (scis_in old.lan) w.sender.station ≡ Some w.sender.sci

-- so many were, in their order
pub record HiredAll (workers : List Worker) (old new : Stage) (crew : List WorkerAt) : Type 0 where
  pub are : map worker_of crew ≡ workers
  pub seated : WereSeated crew old.words new.words
  pub fresh : All IsNew crew
  pub sendable : All (λ w. IsUserFrame w.sender.user) crew
  pub scis : All (λ w. slice_get (scis_in old.lan) w.sender.station ≡ Some w.sender.sci) crew

-- so many user frames more, or so many claims, are more than have numbers
abbrev pub IsOver : Stage → ℕ → ℕ → Type 0
IsOver stage more asked =
    (most_users < stage.users + more) ⊎ (most_claimed < stage.tally.claims + asked)

-- a race begins with workers: each has a user frame, and control's events are kept; else there are too
-- few numbers, and nothing changes
abbrev pub BeginsRace : List WorkerAt → Stage → Stage → Bool → Type 0
BeginsRace crew old new true =
    (length crew + (old.users + 1) < 2 ^ 32) × (old.tally.claims + (jobs_of crew + 16) < 2 ^ 32)
    × (new ≡ record old { users = old.users + length crew; raced = true; steps = new.steps })
    × (steps_of new ≡ Some [])
BeginsRace crew old new false = (new ≡ old) × IsOver old (length crew) (jobs_of crew)

-- workers were hired, and their race was begun
pub record HasEnlisted (workers : List Worker) (old new : Stage) (crew : List WorkerAt) : Type 0 where
  pub mid : Stage
  pub hired : HiredAll workers old mid crew
  pub moved : HasMoved old mid
  pub begins : BeginsRace crew mid new true

-- why they were not, or their race wasn't: there is no memory, or there are too few numbers
abbrev pub IsUnlisted : List Worker → Stage → Halt → Type 0
IsUnlisted workers old halt = (halt ≡ halts.Memory)
    ⊎ ((halt ≡ halts.Limit Frames) × IsOver old (length workers) (jobs_in workers))

-- those that were hired have the tables of their stations' words; no log came yet, and there is room
-- for one of each
pub record HaveRoom (stage : Stage) (crew : List WorkerAt) (logs : List (List Entry))
    (capacity : ℕ) : Type 0 where
  pub tables : All (HasTable (tables_of stage.words)) crew
  pub empty : logs ≡ []
  pub room : length crew ≤ capacity

-- why nobody was hired: the bursts ask for too much, or there is no memory
abbrev pub IsUnhired : World → List Burst → List Numbered → Halt → Type 0
IsUnhired w bursts control halt =
    (perform (run_race bursts control w) w ≡ Stops w halt) ⊎ (halt ≡ halts.Memory)

-- ---- control beside the workers

-- control performed its lines, and kept what they showed
abbrev pub Controlled : List Numbered → Stage → List (List Fact) → Stage → List (List Fact)
    → Result (Unit {0}) Halt → Type 0
Controlled lines old before new after came = Did KeepsReport KeepsNoMore (control_act lines)
    (moment old before) (moment new after) came

-- seats came back, in the order of the workers, whatever run the words keep up with
abbrev pub WereJoined : List WorkerAt → List ControlAt → List ControlAt → Type 0
WereJoined workers old new = (settings : Settings) (r : Run)
    → HaveJoined settings r workers old new

-- Control performed its lines from a group at work on, while each worker did its jobs; then all seats
-- came back, and steps are kept no more.
pub record RanBeside (lines : List Numbered) (crew : List WorkerAt) (old new : Stage) (ran : Ran) :
    Type 0 where
  pub moved : Stage
  pub did : Controlled lines old [] moved ran.kept ran.came
  pub ended : List WorkerAt
  pub done : AreDone crew ended
  pub logs : ran.logs.items ≡ map (λ w. w.log) ended
  pub joined : WereJoined ended moved.words new.words
  pub steps : (steps : List Step) → steps_of moved ≡ Some steps → ran.steps.items ≡ steps
  pub same : new ≡ record moved { words = new.words; steps = None }

-- ---- behind the race

-- whether memory was wanting
abbrev pub is_memory : Result (Unit {0}) Halt → Bool
is_memory (Err halts.Memory) = true
is_memory _ = false

-- whether the group stopped
abbrev pub has_stopped : Result (Unit {0}) Halt → Bool
has_stopped (Ok done) = false
has_stopped (Err halt) = is_stop halt

-- What is known of a race behind its end: the group at work stood for a world outside of a race;
-- workers were hired, and control could perform its lines; it did, beside them.
pub record HasRun (w : World) (workers : List Worker) (lines : List Numbered) (now : Stage)
    (ran : Ran) : Type 0 where
  pub first : Stage
  pub reached : IsReached StandsFor w first
  pub apart : is_racing w.kept.phase ≡ false
  pub begun : Stage
  pub crew : List WorkerAt
  pub hired : AreHired w workers first begun crew
  pub comes : Comes (race workers (control_act lines)) w
  pub beside : RanBeside lines crew begun now ran

-- A world that a race leaves: it is tidy, a race was begun, and the lines stand in none. The group at
-- work has its tally, and this is what was shown since another world.
pub record IsLeft (w v : World) (new : Stage) (shown : List (List Fact)) : Type 0 where
  pub tidy : IsTidy v
  pub raced : v.kept.raced ≡ true
  pub apart : is_racing v.kept.phase ≡ false
  pub counts : Counts v new
  pub shows : reports v.run ≡ reports w.run ++ reports_with new.lan.names shown

-- what a race that ended so leaves of a group at work
abbrev pub Leaves : World → List Chance → Course → Stage → List (List Fact)
    → Result (Unit {0}) Halt → Type 0
Leaves w later out new shown (Ok done) = (v : World) × (out ≡ Goes v) × IsLeft w v new shown
    × StandsFor v new × (v.kept.chances ≡ later)
Leaves w later out new shown (Err halt) = (v : World) × (out ≡ Stops v halt) × IsLeft w v new shown
    × (behind_numbers v.kept.chances ≡ behind_numbers later)

-- What control and the workers did stands in one run, from the line and the tally on that the race
-- found. Behind what chance decided for ticks of control it decided how the claims are woven in. An
-- error leaves nothing but want of memory.
pub record Weaves (ran : Ran) (old new : Stage)
    (result : Result (List (List Fact) × Result (Unit {0}) Halt) AllocError) : Type 0 where
  pub chances : List Chance
  pub leaves : (w : World) (later : List Chance) (workers : List Worker) (lines : List Numbered)
      (now : Stage) (has : HasRun w workers lines now ran)
      → w.kept.chances ≡ has.beside.did.chances ++ (chances ++ later)
      → old ≡ record now { line = w.kept.line; tally = counts (facts_of w.run) }
      → IfOk result (λ x.
      Leaves w later (perform (race workers (control_act lines)) w) new x.0 x.1
      × WasWoven w workers lines has.first.words new.words)

-- and all of it was told
pub record EndsRace {K : Type 0} (Took : K → Report → K → Type 0)
    (Broke : K → Report → K → Unwritten → Type 0) (before : Before) (ran : Ran)
    (old new : Moment Stage K) (result : Result (Unit {0}) Halt) : Type 0 where
  pub chances : List Chance
  pub ends : (w : World) (later : List Chance) (workers : List Worker) (lines : List Numbered)
      (has : HasRun w workers lines old.value ran)
      → w.kept.chances ≡ has.beside.did.chances ++ (chances ++ later)
      → before.line ≡ w.kept.line → before.tally ≡ counts (facts_of w.run)
      → Ends stages Took Broke w later
      (race workers (control_act lines)) old.outlet new result
  pub woven : (w : World) (later : List Chance) (workers : List Worker) (lines : List Numbered)
      (has : HasRun w workers lines old.value ran)
      → w.kept.chances ≡ has.beside.did.chances ++ (chances ++ later)
      → before.line ≡ w.kept.line → before.tally ≡ counts (facts_of w.run) → HadMemory result
      → WasWoven w workers lines has.first.words new.value.words

-- ---- the whole race

-- The end of a race was performed, in each world for which the group may stand, in which it may end,
-- and whose chances begin with those that were decided in the call; the bursts are such as its lines
-- keep.
pub record DidRace {K : Type 0} (Took : K → Report → K → Type 0)
    (Broke : K → Report → K → Unwritten → Type 0) (bursts : List Burst) (control : List Numbered)
    (old new : Moment Stage K) (result : Result (Unit {0}) Halt) : Type 0 where
  pub chances : List Chance
  pub ends : (w : World) (later : List Chance) → w.kept.chances ≡ chances ++ later
      → IsReached StandsFor w old.value → is_racing w.kept.phase ≡ false
      → AreBursts (names_of w.run) bursts → Comes (run_race bursts control w) w
      → Ends stages Took Broke w later
      (run_race bursts control w) old.outlet new result
  pub woven : (w : World) (later : List Chance) → w.kept.chances ≡ chances ++ later
      → IsReached StandsFor w old.value → is_racing w.kept.phase ≡ false
      → AreBursts (names_of w.run) bursts → Comes (run_race bursts control w) w
      → WasBegun bursts w result
      → WasWoven w (workers_of bursts) control old.value.words new.value.words
