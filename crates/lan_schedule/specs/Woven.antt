-- What a race is woven of: control's events and the logs of its workers, each where the merged list
-- has it.
use Rattle.std.specs.Prelude.{◌≡◌, ◌++◌, Bool, true, false, List, map, length, None, Result, Err}
use Rattle.association_slots.specs.Views.{ControlAt}
use Rattle.data_workers.specs.Workers.{WorkerAt}
use Rattle.lan_core.specs.Parts.{followed_by}
use Rattle.worker_races.specs.merge.Weaving.{IsWoven}
use Rattle.worker_races.specs.Beside.{Race, WereBeside, attempts_in, part_in}
use Rattle.worker_races.specs.Performed.{happenings, run_after}
use Rattle.lan_base.specs.declared.sink.Unwritten.{Unwritten}
use Rattle.trace_acts.specs.declared.halt.Halt.{Halt}
use Rattle.trace_acts.specs.declared.halt.Halt.TheVariants.{Memory}
use Rattle.lan_schedule.specs.declared.commands.Replay.{Replay}
use Rattle.lan_schedule.specs.Races.{Burst, Chance, Controlling, Numbered, Phase, Worker, workers_of}
use Rattle.lan_schedule.specs.World.{World, settings}
use Rattle.lan_schedule.specs.Acts.{Act, after_race, begun_race, nothing, perform, world_of}
use Rattle.lan_schedule.specs.Lines.{control_act, excess_of, run_race}
use Rattle.lan_schedule.specs.Reports.{Report}
use Rattle.lan_schedule.specs.Ends.{IsReached, Moment}
use Rattle.lan_schedule.specs.Standing.{Does, StandsFor}
use Rattle.lan_schedule.specs.Shown.{words_of}

-- ---- the race of a world

-- a worker as the lines see it
abbrev pub worker_of : WorkerAt → Worker
worker_of w = record { station = w.sender.station; jobs = w.jobs; user = w.sender.user }

-- where the lines of control come to, in a race that begins in a world
abbrev pub controlled_in : World → List Worker → List Numbered → World
controlled_in w workers lines = world_of (perform (control_act lines) (begun_race workers w))

-- A race was that of a world: it began after its run, and the user frames of its workers are the
-- next ones. These workers claimed while control performed what these lines perform. The words of
-- the stations were these before, and these once all seats had come back.
pub record IsRaceOf (w : World) (crew : List Worker) (lines : List Numbered)
    (old new : List ControlAt) (race : Race) : Type 0 where
  pub settings : race.settings ≡ settings w
  pub run : race.run ≡ w.run
  pub users : race.users ≡ (begun_race crew w).kept.users
  pub base : race.base ≡ length w.kept.users
  pub workers : map worker_of race.began ≡ crew
  pub control : run_after race.performed w.run ≡ (controlled_in w crew lines).run
  pub before : race.before ≡ old
  pub after : race.after ≡ new

-- Control and the workers were beside one another in it, and what it leaves is the run before with
-- its part behind: control's events and the claims of the logs, in the order of the merged list. The
-- part is woven of both.
pub record WasWoven (w : World) (workers : List Worker) (lines : List Numbered)
    (old new : List ControlAt) : Type 0 where
  pub race : Race
  pub race_of : IsRaceOf w workers lines old new race
  pub beside : WereBeside race
  pub woven : IsWoven race.base (part_in race) (happenings race.performed) (attempts_in race)
  pub run : (after_race workers w (controlled_in w workers lines)).run
      ≡ followed_by (part_in race) w.run

-- ---- the call that runs it

-- whether a race is kept that can be run: its lines of control come
abbrev pub is_controlling : Phase → Bool
is_controlling (Controlling bursts control) = true
is_controlling _ = false

-- the race that is kept is run, if one is
abbrev pub race_in : Phase → World → Act
race_in (Controlling bursts control) w = run_race bursts control w
race_in _ w = nothing

-- whether memory was wanting
abbrev pub HadMemory : Result (Unit {0}) Halt → Type 0
HadMemory result = result ≡ Err Memory → ⊥

-- a race is begun unless its bursts ask for more than a limit leaves, or memory is wanting
pub record WasBegun (bursts : List Burst) (w : World) (result : Result (Unit {0}) Halt) : Type 0 where
  pub room : excess_of bursts w ≡ None
  pub memory : HadMemory result

-- A call did an act that ends the race which is kept, if one is: in a world made of that in which it
-- was called, as by the number of its line. However the call ended, a race that was begun was woven
-- so, and the words behind it are those that the call leaves.
pub record RunsRace {K : Type 0} (Took : K → Report → K → Type 0)
    (Broke : K → Report → K → Unwritten → Type 0) (made : World → World) (act : Act)
    (old new : Moment Replay K) (result : Result (Unit {0}) Halt) : Type 0 where
  pub does : Does Took Broke act old new result
  pub woven : (w : World) (later : List Chance) → w.kept.chances ≡ does.chances ++ later
      → IsReached StandsFor w old.value → (bursts : List Burst) (control : List Numbered)
      → w.kept.phase ≡ Controlling bursts control → WasBegun bursts (made w) result
      → WasWoven (made w) (workers_of bursts) control (words_of old.value) (words_of new.value)
