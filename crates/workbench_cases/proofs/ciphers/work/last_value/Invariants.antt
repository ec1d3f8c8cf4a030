use Rattle.std.proofs.Common.{◌≡◌}
use Rattle.workbench_cases.specs.Work.{message_after, value_after}
use Rattle.workbench_cases.proofs.ciphers.work.last_value.Given as goal

abbrev pub invariant-loop-done : goal.invariant-loop-done
invariant-loop-done l = record {
  message : l.message ≡ message_after l._done;
  value : l.value ≡ value_after l._done;
}
