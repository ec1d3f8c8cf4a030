use Rattle.std.proofs.Common.{◌≡◌, ◌++◌, take}
use Rattle.worker_races.specs.merge.Steps.{control_ranks}
use Rattle.worker_races.proofs.merge.merging.append_control.Given as goal

abbrev pub invariant-loop-place : goal.invariant-loop-place
invariant-loop-place l = l.ranks.items ≡ l.initial.ranks.items ++ control_ranks 0 (take l.place l.steps)
