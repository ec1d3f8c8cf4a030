use Rattle.std.proofs.Common.{◌≡◌, ◌≤◌, All}
use Rattle.std.specs.Vec.{vec_len, vec_capacity}
use Rattle.data_workers.specs.inside.Rooms.{IsRoom}
use Rattle.data_workers.proofs.rooms.Rooms.new.Given as goal

-- so many rooms as turns, within the capacity
abbrev pub invariant-loop : goal.invariant-loop
invariant-loop l = (vec_len l.rooms ≡ l.counter) × (l.count ≤ vec_capacity l.rooms) × All (IsRoom l.size) l.rooms.items
