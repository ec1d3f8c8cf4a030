-- The logs that are left, and behind them those of which the entries are there.
use Rattle.std.proofs.Common.{◌≡◌, ◌++◌, length}
use Rattle.worker_races.proofs.merge.taking.rests_of.Given as goal

abbrev pub invariant-loop-log : goal.invariant-loop-log
invariant-loop-log l = l.logs.items ++ l.rests.items ≡ l.initial.logs.items

abbrev pub decreases-loop-log : goal.decreases-loop-log
decreases-loop-log l = length l.logs.items
