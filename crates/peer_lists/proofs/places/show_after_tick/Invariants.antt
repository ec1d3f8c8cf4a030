use Rattle.std.proofs.Common.{◌≡◌, ◌≤◌, map, take, length, vec_capacity}
use Rattle.peer_lists.specs.Showing.{aged_rows, shown}
use Rattle.peer_lists.proofs.places.show_after_tick.Given as goal

abbrev pub invariant-loop-row : goal.invariant-loop-row
invariant-loop-row l = (l.into.items ≡ map shown (aged_rows (take l.row-index l.rows))) × (length l.into.items ≤ l.row-index) × (vec_capacity l.into ≡ vec_capacity l.initial.into)
