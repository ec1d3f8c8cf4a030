use Rattle.std.proofs.Common.{◌≡◌, ◌≤◌, map, drop, length}
use lib.Pointwise.{pointwise}
use Rattle.lan_base.specs.Identifiers.{same_mi}
use Rattle.mka_station.specs.inside.Rows.{live_rows}
use Rattle.mka_station.proofs.rows.are_live.Given as goal

abbrev pub invariant-loop-row : goal.invariant-loop-row
invariant-loop-row l = (pointwise same_mi (map (λ r. r.mi) (live_rows l.rows)) l.members ≡ pointwise same_mi (map (λ r. r.mi) (live_rows (drop l.row-index l.rows))) (drop l.at l.members)) × (l.at ≤ length l.members)
