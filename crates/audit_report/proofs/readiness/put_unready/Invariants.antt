use Rattle.std.proofs.Common.{◌≡◌, ◌++◌, take}
use Rattle.std.specs.Prelude.{flat_map}
use Rattle.audit_report.specs.Readiness.{unready_line}
use Rattle.audit_report.proofs.readiness.put_unready.Given as goal

abbrev pub invariant-loop-each : goal.invariant-loop-each
invariant-loop-each l = l.into.items ≡ l.initial.into.items ++ flat_map unready_line (take l.each-index l.unready)
