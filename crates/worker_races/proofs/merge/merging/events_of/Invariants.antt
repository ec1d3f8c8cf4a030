-- So far the first ranks have their events.
use Rattle.std.proofs.Common.{◌≡◌, All, map, take, Some}
use Rattle.worker_races.specs.merge.Steps.{event_of_rank, IsRankOf}
use Rattle.worker_races.proofs.merge.merging.events_of.Given as goal

abbrev pub invariant-loop-rank : goal.invariant-loop-rank
invariant-loop-rank l =
    All (IsRankOf l.steps) l.ranks
    → map Some l.events.items ≡ map (event_of_rank l.steps) (take l.rank-index l.ranks)
