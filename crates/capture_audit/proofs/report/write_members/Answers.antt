use Rattle.std.proofs.Common.{◌<◌, ◌+◌, ◌++◌, ℕ, List, length, drop, take, arith, subst}
use Rattle.std.specs.Prelude.{flat_map}
use Rattle.std.proofs.lemmas.List.{take_all}
use Rattle.std.proofs.lemmas.Result.{err_from_is_err_and}
use Rattle.audit_report.specs.Members.{member_line, member_lines}
use Rattle.member_notes.specs.declared.facts.Member.{Member}
use Rattle.capture_audit.specs.inside.Reporting.{IsWrittenOn}
use Rattle.capture_audit.proofs.WritingOn.{line-next, lines-rest, nth, stops-before}
use Rattle.capture_audit.proofs.report.write_members.Goals as goal

pub returns-in_err-write_member-clause-writes : goal.returns-in_err-write_member-clause-writes
returns-in_err-write_member-clause-writes g c = λ all held on.
    let p = err_from_is_err_and c.from_residual.result c.from_residual.ensures.1 in
    let ms = c.args.members.now in
    let i = c.loop-member.member-index in
    let m = nth ms i in
    let lt : i < length ms = omega arith in
    let so_far = all ++ flat_map member_line (take i ms) in
    rw (p.1, p.2) (stops-before (so_far ++ member_line m) (flat_map member_line (drop (i + 1) ms)) (all ++ member_lines ms)
    (lines-rest ms i lt all) held (g.K.Sink.held c.write_member.new.sink)
    c.write_member.new.batch.text.items c.write_member.new.batch.text.items c.in_err-write_member.field-0.0
    (c.in_err-write_member.ensures.writes so_far held (c.loop-member.invariant.writes all held on)))

pub loop-member-preserved : goal.loop-member-preserved
loop-member-preserved g c =
    let was = c.loop-member.invariant in
    let one = c.in_ok-write_member.ensures in
    let before = was.faults in
    let more = one.write_fault.counts in
    let ms = c.args.members.now in
    let i = c.loop-member.member-index in
    let lt : i < length ms = omega arith in
    record {
      writes = λ all held on.
          subst (λ (xs : List ℕ). IsWrittenOn xs held (g.K.Sink.held c.write_member.new.sink) c.write_member.new.batch.text.items)
          (line-next ms i lt all)
          (one.writes (all ++ flat_map member_line (take i ms)) held (was.writes all held on));
      faults = omega (arith, before, more);
    }

pub returns-clause-writes : goal.returns-clause-writes
returns-clause-writes g c = λ all held on.
    let ms = c.args.members.now in
    let i = c.loop-member.member-index in
    subst (λ (xs : List Member). IsWrittenOn (all ++ flat_map member_line xs) held (g.K.Sink.held c.loop-member.sink) c.loop-member.batch.text.items)
    (take_all i ms c.loop-member-test.false) (c.loop-member.invariant.writes all held on)
