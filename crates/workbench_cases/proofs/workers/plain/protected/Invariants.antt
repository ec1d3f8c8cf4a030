use Rattle.std.proofs.Common.{◌≡◌, ◌≤◌}
use Rattle.std.specs.Vec.{vec_len, vec_capacity}
use Rattle.workbench_cases.proofs.workers.plain.protected.Given as goal

-- as many frames as turns, within the capacity
abbrev pub invariant-loop-done : goal.invariant-loop-done
invariant-loop-done l = (vec_len l.frames ≡ l.done) × (l.count ≤ vec_capacity l.frames)
