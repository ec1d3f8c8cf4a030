use Rattle.std.proofs.Common.{◌≡◌}
use Rattle.workbench_cases.specs.Work.{block_after}
use Rattle.workbench_cases.proofs.ciphers.work.last_block.Given as goal

abbrev pub invariant-loop-done : goal.invariant-loop-done
invariant-loop-done l = l.block ≡ block_after l.key l._done
