-- For which world a replay stands.
use Rattle.std.specs.Prelude.{◌≡◌, ◌<◌, ◌≤◌, ℕ, true, List, [], ◌++◌, length, Option, Some, None}
use Rattle.std.specs.Prelude.{Result, Ok, Err}
use Rattle.std.specs.List.{AllByRecursion}
use Rattle.lan_core.specs.Run.{facts_of}
use Rattle.lan_core.specs.Types.{IsUserFrame}
use Rattle.fact_tally.specs.Summary.{counts}
use Rattle.trace_acts.specs.declared.halt.Halt.{Halt}
pub use Rattle.trace_acts.specs.Settings.{IsNamed}
use Rattle.lan_base.specs.declared.sink.Unwritten.{Unwritten}
use Rattle.trace_acts.specs.Names.{names_of}
use Rattle.lan_schedule.specs.declared.stage.Stage.{Stage}
use Rattle.lan_schedule.specs.declared.phase.Phase.{Phase as Stood}
use Rattle.lan_schedule.specs.declared.phase.Phase.TheVariants as stood
use Rattle.lan_schedule.specs.declared.commands.Replay.{Replay}
use Rattle.lan_schedule.specs.Races.{Chance, Phase, Apart, Bursting, Controlling, Burst, Numbered}
use Rattle.lan_schedule.specs.Races.{workers_at}
use Rattle.lan_schedule.specs.World.{World, nothing_kept}
use Rattle.lan_schedule.specs.Acts.{Act, Goes, Stops, perform}
use Rattle.trace_text.specs.Limits.{most_workers}
use Rattle.lan_schedule.specs.Deeds.{IsInRange, is_control}
use Rattle.lan_schedule.specs.Kinds.{wrong_station}
use Rattle.lan_schedule.specs.Lines.{at_line, close, line_after}
use Rattle.lan_schedule.specs.Reports.{Report}
use Rattle.lan_schedule.specs.Ends.{Moment, IsReached, Ends, Standing}
use Rattle.lan_schedule.specs.Stages.{StandsFor as StageStandsFor, Counts as StageCounts}

-- where the lines of a replay stand
abbrev pub phase_of : Stood → Phase
phase_of stood.Apart = Apart
phase_of (stood.Bursting bursts) = Bursting bursts.items
phase_of (stood.Controlling bursts control) = Controlling bursts.items control.items

-- a burst of a station that there is, whose user frame can be sent
pub record IsBurst (names : List (List ℕ)) (burst : Burst) : Type 0 where
  pub station : burst.station < length names
  pub user : IsUserFrame burst.user

-- a deed of control whose words are in their ranges, at stations that there are
pub record IsControl (names : List (List ℕ)) (kept : Numbered) : Type 0 where
  pub ranges : IsInRange kept.deed
  pub control : is_control kept.deed ≡ true
  pub stations : wrong_station kept.deed names ≡ None

-- such bursts, and no station has more workers than there are seats at its words
pub record AreBursts (names : List (List ℕ)) (bursts : List Burst) : Type 0 where
  pub each : AllByRecursion (IsBurst names) bursts
  pub few : (s : ℕ) → workers_at s bursts ≤ most_workers

-- what is kept for a race can be performed, where the stations have these names
abbrev pub AreFit : List (List ℕ) → Phase → Type 0
AreFit names (Bursting bursts) = AreBursts names bursts
AreFit names (Controlling bursts control) =
    AreBursts names bursts × AllByRecursion (IsControl names) control
AreFit names _ = Unit {0}

-- before the first station nothing happened, and the tally is that of no facts; from then on the
-- group at work stands for the world
abbrev pub IsStaged : World → Replay → Option Stage → Type 0
IsStaged w replay None =
    (w.run ≡ [])
    × (w.kept ≡ record (nothing_kept w.kept.chances) {
      line = replay.line;
      chosen = replay.chosen;
    })
    × (replay.nothing ≡ counts []) × IsNamed replay.chosen.group
IsStaged w replay (Some stage) = StageStandsFor w stage

-- a replay that is not halted stands for a world
pub record StandsFor (w : World) (replay : Replay) : Type 0 where
  pub goes : replay.halted ≡ None
  pub phase : w.kept.phase ≡ phase_of replay.phase
  pub fit : AreFit (names_of w.run) w.kept.phase
  pub stage : IsStaged w replay replay.stage

abbrev pub HasTally : World → Replay → Option Stage → Type 0
HasTally w replay None = replay.nothing ≡ counts (facts_of w.run)
HasTally w replay (Some stage) = StageCounts w stage

-- the tally of a replay, halted or not, is that of the world's run
abbrev pub Counts : World → Replay → Type 0
Counts w replay = HasTally w replay replay.stage

-- what is said of a replay
abbrev pub replays : Standing Replay
replays = record { Stands = StandsFor; Leaves = λ halt. Counts; Counts = Counts }

-- A call did an act, in each world for which its replay may stand, and whose chances begin with
-- those that were decided in the call. What it told is told behind whatever was told before.
pub record Does {K : Type 0} (Took : K → Report → K → Type 0)
    (Broke : K → Report → K → Unwritten → Type 0) (act : Act) (old new : Moment Replay K)
    (result : Result (Unit {0}) Halt) : Type 0 where
  pub chances : List Chance
  pub ends : (w : World) (later : List Chance) → w.kept.chances ≡ chances ++ later
      → IsReached StandsFor w old.value
      → Ends replays Took Broke w later act old.outlet new
      result

-- the end of a trace, whose lines made this world: nothing more comes, or it stops there
abbrev pub Closes : World → Result (Unit {0}) Halt → Type 0
Closes w (Ok done) = perform close w ≡ Goes w
Closes w (Err halt) = perform close w ≡ Stops (at_line (line_after w.kept.line) w) halt
