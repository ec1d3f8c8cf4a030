use Rattle.std.proofs.Common.{◌≡◌, ◌+◌, ◌-◌, ◌≤◌, drop}
use Rattle.association_slots.specs.Views.{free}
use Rattle.association_slots.proofs.control.free_place.Given as goal

abbrev pub invariant-loop-place : goal.invariant-loop-place
invariant-loop-place l = (l.place ≤ 8) × (free l.out ≡ l.place + free (drop l.place l.out))

abbrev pub decreases-loop-place : goal.decreases-loop-place
decreases-loop-place l = 8 - l.place
