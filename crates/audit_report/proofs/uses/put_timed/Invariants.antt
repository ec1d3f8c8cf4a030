use Rattle.std.proofs.Common.{◌≡◌, ◌++◌, take}
use Rattle.std.specs.Prelude.{flat_map}
use Rattle.audit_report.specs.Uses.{timed_line}
use Rattle.audit_report.proofs.uses.put_timed.Given as goal

abbrev pub invariant-loop-each : goal.invariant-loop-each
invariant-loop-each l = l.into.items ≡ l.initial.into.items ++ flat_map timed_line (take l.each-index l.uses)
