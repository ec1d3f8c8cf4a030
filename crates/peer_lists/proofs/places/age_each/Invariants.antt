use Rattle.std.proofs.Common.{◌≡◌, ◌++◌, map, take, drop}
use Rattle.peer_lists.specs.Showing.{aged_peer}
use Rattle.peer_lists.proofs.places.age_each.Given as goal

abbrev pub invariant-loop-row : goal.invariant-loop-row
invariant-loop-row l = l.row-items ≡ map (aged_peer) (take l.row-index l.initial.row-items) ++ drop l.row-index l.initial.row-items
