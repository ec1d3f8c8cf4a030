-- `try N`: the trace that is made of a number is performed for its summary.
use Rattle.std.specs.Prelude.{ℕ, true, List, Option, Some}
use Rattle.text_lines.specs.Reading.{sourced}
use Rattle.trace_maker.specs.Made.{made}
use Rattle.replay.specs.Sinks.{Sunk}
use Rattle.rollover_program.specs.declared.status.Status.{Status}
use Rattle.rollover_program.specs.commands.Run.{EndsAsRun}

-- it is performed from a source that has the text and never fails
abbrev pub EndsTried : ℕ → Sunk → Sunk → Status → Type 0
EndsTried n old new status = (left : Option (List ℕ))
    × EndsAsRun true (made n) (sourced (Some (made n)) 0) (sourced left 0) old new status
