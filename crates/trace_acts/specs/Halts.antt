-- Why a trace ends where its group stops, or where who is told breaks.
use Rattle.std.specs.Prelude.{ℕ}
use Rattle.lan_core.specs.declared.stop.Stop.{Stop}
use Rattle.lan_core.specs.declared.stop.Stop.TheVariants as stops
use Rattle.trace_acts.specs.declared.halt.Halt.{Halt}
use Rattle.trace_acts.specs.declared.halt.Halt.TheVariants as halts
use Rattle.trace_acts.specs.declared.halt.Kind.TheVariants.{DrawsSpent}
use Rattle.lan_base.specs.declared.sink.Unwritten.{Unwritten}
use Rattle.lan_base.specs.declared.sink.Unwritten.TheVariants as whys

-- why a trace ends where its group stops, at the line of this number
abbrev pub halt_of : ℕ → Stop → Halt
halt_of line stops.DrawsSpent = halts.Trace line DrawsSpent
halt_of line (stops.Limit which) = halts.Limit which
halt_of line (stops.RepeatedDraw first second) = halts.RepeatedDraw first second
halt_of line (stops.Forged station) = halts.Forged line

-- why a trace ends where what it shows was not written
abbrev pub halt_of_unwritten : Unwritten → Halt
halt_of_unwritten whys.Failed = halts.WriteFault
halt_of_unwritten whys.Memory = halts.Memory
