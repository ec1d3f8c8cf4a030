-- No step that was passed ends the entry's time.
use Rattle.std.proofs.Common.{length, ◌-◌, ◌≤◌}
use Rattle.worker_races.specs.merge.Places.{place}
use Rattle.worker_races.specs.merge.Steps.{attempt_of, moves_of}
use Rattle.worker_races.proofs.merge.merging.advance.Given as goal

abbrev pub invariant-loop-at : goal.invariant-loop-at
invariant-loop-at l =
    l.from ≤ place (attempt_of 0 l.entry) (moves_of l.steps)
    → l.at ≤ place (attempt_of 0 l.entry) (moves_of l.steps)

abbrev pub decreases-loop-at : goal.decreases-loop-at
decreases-loop-at l = length l.steps - l.at
