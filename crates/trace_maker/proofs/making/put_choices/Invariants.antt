use Rattle.std.proofs.Common.{◌≡◌, ◌+◌, ◌++◌, map}
use Rattle.std.specs.List.{range_with_len}
use Rattle.trace_maker.specs.Generator.{after, value}
use Rattle.trace_maker.specs.Made.{chosen, text_of}
use Rattle.trace_maker.proofs.making.put_choices.Given as goal

-- the lines so far, and the steps that chose them
abbrev pub invariant-loop-i : goal.invariant-loop-i
invariant-loop-i l = record {
  text : l.into.items ≡ l.initial.into.items ++ text_of (map (λ k. chosen (value l.initial.generator.state (k + 1))) (range_with_len 0 l.i));
  steps : l.generator.state ≡ after l.initial.generator.state l.i;
}
