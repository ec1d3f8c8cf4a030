use Rattle.std.proofs.Common.{◌≡◌, ◌++◌, map, take, drop}
use Rattle.peer_lists.specs.inside.RowChanges.{displaced_peer}
use Rattle.peer_lists.proofs.places.displace.Given as goal

abbrev pub invariant-loop-row : goal.invariant-loop-row
invariant-loop-row l = l.row-items ≡ map (displaced_peer l.heard) (take l.row-index l.initial.row-items) ++ drop l.row-index l.initial.row-items
