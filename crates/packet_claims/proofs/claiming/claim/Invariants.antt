use Rattle.std.proofs.Common.{◌≡◌, ◌+◌, ◌-◌}
use Rattle.packet_claims.specs.inside.Tries.{Tries}
use Rattle.packet_claims.proofs.claiming.claim.Given as goal

abbrev pub invariant-loop-now : goal.invariant-loop-now
invariant-loop-now g l = (l.seat.table ≡ l.initial.seat.table) × Tries l.initial.seat.view l.seat.view l.tried

abbrev pub decreases-loop-now : goal.decreases-loop-now
decreases-loop-now g l = l.initial.seat.view.limit + 1 - l.tried
