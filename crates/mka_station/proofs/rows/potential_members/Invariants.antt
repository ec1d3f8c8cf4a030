use Rattle.std.proofs.Common.{◌≡◌, map, take}
use Rattle.std.specs.List.{filter}
use Rattle.mka_station.proofs.rows.potential_members.Given as goal

abbrev pub invariant-loop-row : goal.invariant-loop-row
invariant-loop-row l = l.members.items ≡ map (λ r. r.mi) (filter (λ r. r.potential) (take l.row-index l.rows))
