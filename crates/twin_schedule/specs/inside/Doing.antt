-- What a call did of an act that can be performed.
use Rattle.std.specs.Prelude.{ℕ, Option, Result}
use Rattle.lan_base.specs.declared.frame.UserFrame.{UserFrame}
use Rattle.lan_core.specs.declared.stop.StepError.TheVariants.{Memory, Stopped}
use Rattle.cak_roll.specs.declared.event.TwinEvent.{TwinEvent}
use Rattle.cak_roll.specs.declared.fault.TwinError.{TwinError}
use Rattle.cak_roll.specs.declared.fault.TwinError.TheVariants.{Failed, NoSecond}
use Rattle.cak_roll.specs.Answers.{IsGiven}
use Rattle.trace_acts.specs.declared.halt.Halt.{Halt}
use Rattle.trace_acts.specs.declared.halt.Halt.TheVariants as halts
use Rattle.trace_acts.specs.declared.halt.Kind.TheVariants.{Order}
use Rattle.trace_acts.specs.Halts.{halt_of}
use Rattle.lan_base.specs.declared.sink.Unwritten.{Unwritten}
use Rattle.twin_schedule.specs.World.{World}
use Rattle.twin_schedule.specs.Acts.{Act, happen, perform}
use Rattle.twin_schedule.specs.Reports.{Report}
use Rattle.twin_schedule.specs.Ends.{Moment, IsReached, Ends}
use Rattle.twin_schedule.specs.declared.stage.Stage.{Stage}
use Rattle.twin_schedule.specs.declared.commands.TwinReplay.{TwinReplay}
use Rattle.twin_schedule.specs.Stages.{StandsFor as StageStandsFor}
use Rattle.twin_schedule.specs.Standing.{StandsFor}
use Rattle.twin_schedule.specs.inside.Comes.{Comes}

-- why a trace ends where two groups go no further, at the line of this number
abbrev pub halt_by : ℕ → TwinError → Halt
halt_by line (Failed (Stopped stop)) = halt_of line stop
halt_by line (Failed Memory) = halts.Memory
halt_by line NoSecond = halts.Trace line Order

-- a call did an act, in each world for which its value may stand, and in which the act can be
-- performed
pub record DidAs {R K : Type 0} (Stands : World → R → Type 0) (Took : K → Report → K → Type 0)
    (Broke : K → Report → K → Unwritten → Type 0) (act : Act) (old new : Moment R K)
    (result : Result (Unit {0}) Halt) : Type 0 where
  pub ends : (w : World) → IsReached Stands w old.value → Comes act w
      → Ends Stands Took Broke w (perform act w) old.outlet new result

-- so did a call on two groups at work
abbrev pub Did : {K : Type 0} → (K → Report → K → Type 0) → (K → Report → K → Unwritten → Type 0)
    → Act → Moment Stage K → Moment Stage K → Result (Unit {0}) Halt → Type 0
Did Took Broke act old new result = DidAs StageStandsFor Took Broke act old new result

-- so did a call on a replay
abbrev pub DidSo : {K : Type 0} → (K → Report → K → Type 0) → (K → Report → K → Unwritten → Type 0)
    → Act → Moment TwinReplay K → Moment TwinReplay K → Result (Unit {0}) Halt → Type 0
DidSo Took Broke act old new result = DidAs StandsFor Took Broke act old new result

-- an event happened, in the worlds in which this user frame is the one that it names
pub record Happened {K : Type 0} (Took : K → Report → K → Type 0)
    (Broke : K → Report → K → Unwritten → Type 0) (given : Option UserFrame) (event : TwinEvent)
    (old new : Moment Stage K) (result : Result (Unit {0}) Halt) : Type 0 where
  pub ends : (w : World) → IsReached StageStandsFor w old.value
      → IsGiven w.kept.users given event → Comes (happen event) w
      → Ends StageStandsFor Took Broke w (perform (happen event) w) old.outlet new result
