-- What the end of a call leaves of a replay.
use Rattle.std.specs.Prelude.{Some, Result, Ok, Err}
use Rattle.trace_acts.specs.declared.halt.Halt.{Halt}
use Rattle.lan_schedule.specs.declared.commands.Replay.{Replay}

-- an error halts it
abbrev pub halted_by : Result (Unit {0}) Halt → Replay → Replay
halted_by (Ok done) replay = replay
halted_by (Err halt) replay = record replay { halted = Some halt }
