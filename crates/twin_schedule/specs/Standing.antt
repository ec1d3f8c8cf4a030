-- For which world a replay of two groups stands.
use Rattle.std.specs.Prelude.{◌≡◌, true, Option, Some, None, Result}
use Rattle.lan_base.specs.Ranges.{IsCkn}
use Rattle.trace_acts.specs.declared.choices.Keyed.{Keyed}
use Rattle.trace_acts.specs.declared.halt.Halt.{Halt}
pub use Rattle.trace_acts.specs.Settings.{IsNamed}
use Rattle.lan_base.specs.declared.sink.Unwritten.{Unwritten}
use Rattle.twin_schedule.specs.declared.stage.Stage.{Stage}
use Rattle.twin_schedule.specs.declared.commands.TwinReplay.{TwinReplay}
use Rattle.twin_schedule.specs.World.{World, waiting}
use Rattle.twin_schedule.specs.Acts.{Act, perform}
use Rattle.twin_schedule.specs.Kinds.{may_be_second}
use Rattle.twin_schedule.specs.Reports.{Report}
use Rattle.twin_schedule.specs.Ends.{Moment, IsReached, Ends}
use Rattle.twin_schedule.specs.Stages.{StandsFor as StageStandsFor}

-- so has a second group, and it may come behind the first one
abbrev pub IsSecond : Option Keyed → Option Keyed → Type 0
IsSecond first None = Unit {0}
IsSecond first (Some group) = IsCkn group.ckn × (may_be_second group.ckn first None ≡ true)

-- the groups that were chosen can be opened
abbrev pub MayOpen : Option Keyed → Option Keyed → Type 0
MayOpen first second = IsNamed first × IsSecond first second

-- before the first station nothing happened, and what was chosen can be opened; from then on the groups
-- at work stand for the world
abbrev pub IsStaged : World → TwinReplay → Option Stage → Type 0
IsStaged w replay None =
    (w ≡ waiting replay.line replay.chosen replay.second)
    × MayOpen replay.chosen.group replay.second
IsStaged w replay (Some stage) = StageStandsFor w stage

-- a replay that is not halted stands for a world
pub record StandsFor (w : World) (replay : TwinReplay) : Type 0 where
  pub goes : replay.halted ≡ None
  pub stage : IsStaged w replay replay.stage

-- a call did an act, in each world for which the replay may stand
pub record Does {K : Type 0} (Took : K → Report → K → Type 0)
    (Broke : K → Report → K → Unwritten → Type 0) (act : Act) (old new : Moment TwinReplay K)
    (result : Result (Unit {0}) Halt) : Type 0 where
  pub ends : (w : World) → IsReached StandsFor w old.value
      → Ends StandsFor Took Broke w (perform act w) old.outlet new result
