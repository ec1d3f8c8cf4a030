use Rattle.std.proofs.Common.{◌≡◌, ◌++◌, take}
use Rattle.std.specs.Prelude.{flat_map}
use Rattle.audit_report.specs.Unknown.{unknown_line}
use Rattle.audit_report.proofs.unknown.put_unknown.Given as goal

abbrev pub invariant-loop-name : goal.invariant-loop-name
invariant-loop-name l = l.into.items ≡ l.initial.into.items ++ flat_map unknown_line (take l.name-index l.names)
