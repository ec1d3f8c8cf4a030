-- The ranks of the steps, and behind them those of the first logs.
use Rattle.std.proofs.Common.{◌≡◌, ◌++◌, take}
use Rattle.worker_races.specs.merge.Steps.{control_ranks, moves_of, ranks_of, AreRising}
use Rattle.worker_races.proofs.merge.merging.merge.Given as goal

abbrev pub invariant-loop-number : goal.invariant-loop-number
invariant-loop-number l =
    AreRising (moves_of l.control) l.logs
    → l.ranks.items
    ≡ control_ranks 0 l.control ++ ranks_of (moves_of l.control) 0 (take l.number l.logs)
