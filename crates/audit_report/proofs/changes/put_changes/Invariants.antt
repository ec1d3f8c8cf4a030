use Rattle.std.proofs.Common.{◌≡◌, ◌++◌}
use Rattle.std.specs.Prelude.{flat_map, take}
use Rattle.audit_report.specs.Changes.{change_line}
use Rattle.audit_report.proofs.changes.put_changes.Given as goal

abbrev pub invariant-loop-change : goal.invariant-loop-change
invariant-loop-change l =
    l.into.items ≡ l.initial.into.items ++ flat_map change_line (take l.change-index l.changes)
