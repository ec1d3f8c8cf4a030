-- What a call of a replay promises.
use Rattle.std.specs.Prelude.{◌≡◌, Some, Result, Err, IfErr}
use Rattle.lan_base.specs.declared.sink.Unwritten.{Unwritten}
use Rattle.station_words.specs.Seats.{NoMoreOut}
use Rattle.trace_acts.specs.declared.halt.Halt.{Halt}
use Rattle.lan_schedule.specs.declared.commands.Replay.{Replay}
use Rattle.lan_schedule.specs.World.{World}
use Rattle.lan_schedule.specs.Acts.{Act}
use Rattle.lan_schedule.specs.Reports.{Report}
use Rattle.lan_schedule.specs.Ends.{Moment}
use Rattle.lan_schedule.specs.Standing.{Does}
use Rattle.lan_schedule.specs.Shown.{words_of}
use Rattle.lan_schedule.specs.Woven.{RunsRace}

-- A call did the act of a line. Where the line ends a race, the one that was kept was run: what control
-- and the workers did is woven into the run. However the call ended, no seat is out that a worker had.
pub record Performs {K : Type 0} (Took : K → Report → K → Type 0)
    (Broke : K → Report → K → Unwritten → Type 0) (IsEnd : Type 0) (made : World → World) (act : Act)
    (old new : Moment Replay K) (result : Result (Unit {0}) Halt) : Type 0 where
  pub does : Does Took Broke act old new result
  pub race : IsEnd → RunsRace Took Broke made act old new result
  pub seats : NoMoreOut (words_of old.value) (words_of new.value)

-- An error halts the replay. A halted one answers its halt again, and nothing changes.
pub record KeepsHalt {K : Type 0} (old new : Moment Replay K) (result : Result (Unit {0}) Halt) :
    Type 0 where
  pub halts : IfErr result (λ halt. new.value.halted ≡ Some halt)
  pub again : (halt : Halt) → old.value.halted ≡ Some halt
      → (result ≡ Err halt) × (new.value ≡ old.value) × (new.outlet ≡ old.outlet)
