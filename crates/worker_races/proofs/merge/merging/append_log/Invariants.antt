-- The ranks of the first entries stand at the end, and no later entry stands before the last place.
use Rattle.std.proofs.Common.{◌≡◌, ◌≤◌, ◌++◌, take, length}
use Rattle.std.specs.List.{AllWithin}
use Rattle.std.specs.List.Sorted.{IsNonDecreasingBy}
use Rattle.worker_races.specs.merge.Places.{place}
use Rattle.worker_races.specs.merge.Steps.{attempt_of, moves_of, claim_ranks}
use Rattle.worker_races.proofs.merge.merging.append_log.Given as goal

abbrev pub invariant-loop-entry : goal.invariant-loop-entry
invariant-loop-entry l =
    IsNonDecreasingBy (λ e. place (attempt_of 0 e) (moves_of l.steps)) l.log
    → (l.ranks.items ≡ l.initial.ranks.items
    ++ claim_ranks (moves_of l.steps) l.number (take l.entry-index l.log))
    × AllWithin (λ e. l.at ≤ place (attempt_of 0 e) (moves_of l.steps)) l.log l.entry-index
    (length l.log)
