-- How a run ends, by the ends of the calls that it is made of.
use Rattle.std.specs.Prelude.{Result, Ok, Err}
use Rattle.lan_base.specs.declared.sink.Unwritten.{Unwritten}
use Rattle.text_lines.specs.declared.reading.End.{End}
use Rattle.text_lines.specs.declared.reading.End.TheVariants.{Refused}
use Rattle.trace_acts.specs.declared.halt.Halt.{Halt}
use Rattle.trace_acts.specs.Halts.{halt_of_unwritten}

-- by how its lines were read and whether its text may end there
abbrev pub ended : Result (Unit {0}) (End Halt) → Result (Unit {0}) Halt → Result (Unit {0}) (End Halt)
ended (Ok done) (Ok may) = Ok tt
ended (Ok done) (Err halt) = Err (Refused halt)
ended (Err end) may = Err end

-- by what writing its text answered
abbrev pub answered : Result (Unit {0}) Unwritten → Result (Unit {0}) (End Halt)
answered (Ok done) = Ok tt
answered (Err why) = Err (Refused (halt_of_unwritten why))
