use Rattle.std.proofs.Common.{◌≡◌, ◌≤◌, map, take, length}
use Rattle.std.specs.List.{filter}
use Rattle.mka_station.specs.inside.Rows.{peer_in}
use Rattle.mka_station.proofs.rows.potential_peers.Given as goal

abbrev pub invariant-loop-row : goal.invariant-loop-row
invariant-loop-row l = (l.peers ≡ map peer_in (filter (λ r. r.potential) (take l.row-index l.rows))) × (length l.peers ≤ l.row-index)
