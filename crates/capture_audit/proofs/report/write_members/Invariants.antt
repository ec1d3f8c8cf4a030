use Rattle.std.proofs.Common.{◌≤◌, ◌++◌, List, ℕ, Option}
use Rattle.std.specs.Prelude.{flat_map, take}
use Rattle.audit_report.specs.Members.{member_line}
use Rattle.capture_audit.specs.inside.Reporting.{IsWrittenOn}
use Rattle.capture_audit.proofs.report.write_members.Given as goal

abbrev pub invariant-loop-member : goal.invariant-loop-member
invariant-loop-member g l =
    let held = g.K.Sink.held in
    record {
      writes : (all : List ℕ) (before : Option (List ℕ))
          → IsWrittenOn all before (held l.fn.sink) l.fn.batch.text.items
          → IsWrittenOn (all ++ flat_map member_line (take l.member-index l.members)) before (held l.sink) l.batch.text.items;
      faults : g.K.Sink.faults l.fn.sink ≤ g.K.Sink.faults l.sink;
    }
