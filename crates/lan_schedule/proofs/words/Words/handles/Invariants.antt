-- So far there is a handle of each of the first tables, within the capacity.
use Rattle.std.proofs.Common.{◌≡◌, ◌≤◌, length, take}
use Rattle.std.specs.Vec.{vec_capacity}
use Rattle.station_words.specs.Ties.{tables_of}
use Rattle.lan_schedule.proofs.words.Words.handles.Given as goal

abbrev pub invariant-loop-table : goal.invariant-loop-table
invariant-loop-table l = (l.handles.items ≡ take l.table-index (tables_of l.self))
    × (length (tables_of l.self) ≤ vec_capacity l.handles)
