use Rattle.std.proofs.Common.{◌≡◌}
use Rattle.rx_slots.specs.Standing.{StandsFor}
use Rattle.workbench_cases.specs.Frames.{receiver, receiver_after}
use Rattle.workbench_cases.proofs.ciphers.frames.last_end.Given as goal

abbrev pub invariant-loop-done : goal.invariant-loop-done
invariant-loop-done l = record {
  stands : StandsFor receiver 2 l.slots (receiver_after l._done).history;
  last : l.last ≡ (receiver_after l._done).last;
}
