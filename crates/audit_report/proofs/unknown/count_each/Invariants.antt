use Rattle.std.proofs.Common.{◌≡◌, ◌++◌, map, take, drop}
use Rattle.audit_report.specs.inside.Naming.{counted}
use Rattle.audit_report.proofs.unknown.count_each.Given as goal

abbrev pub invariant-loop-name : goal.invariant-loop-name
invariant-loop-name l = l.name-items ≡ map (counted l.ckn l.packet) (take l.name-index l.initial.name-items) ++ drop l.name-index l.initial.name-items
