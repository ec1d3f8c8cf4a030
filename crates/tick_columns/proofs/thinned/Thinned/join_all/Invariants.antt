use Rattle.std.proofs.Common.{ℕ, List, ◌++◌, take}
use Rattle.tick_columns.specs.declared.column.Column.{Column}
use Rattle.tick_columns.specs.inside.Joining.{IsWider}
use Rattle.tick_columns.proofs.thinned.Thinned.join_all.Given as goal

abbrev pub invariant-loop-column : goal.invariant-loop-column
invariant-loop-column g l =
    (ticks : ℕ) (before : List (Column g.row.T.Denot)) → IsWider g.T.Timed.time ticks before l.fn.self
    → IsWider g.T.Timed.time ticks (before ++ take l.column-index l.columns) l.self
