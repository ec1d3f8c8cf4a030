use Rattle.std.proofs.Common.{◌≡◌, ◌++◌, take}
use Rattle.trace_text.specs.declared.line.Line.TheVariants.{DrawsList}
use Rattle.trace_text.specs.Writing.{fields}
use Rattle.trace_text.specs.inside.Fields.{further}
use Rattle.trace_text.proofs.writing.put_blocks.Given as goal

abbrev pub invariant-loop-value : goal.invariant-loop-value
invariant-loop-value l = l.into.items ≡ l.initial.into.items ++ further (fields (DrawsList (take l.value-index l.values)))
