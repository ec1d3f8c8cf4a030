use Rattle.std.proofs.Common.{◌++◌, refl}
use Rattle.std.proofs.lemmas.Result.{err_from_is_err_and}
use Rattle.audit_report.specs.Members.{member_line}
use Rattle.capture_audit.proofs.WritingOn.{part-longer, text-left, text-more, text-written}
use Rattle.capture_audit.proofs.report.write_member.Goals as goal

pub returns-in_err-put_member-clause-writes : goal.returns-in_err-put_member-clause-writes
returns-in_err-put_member-clause-writes g c = λ all held on.
    let p = err_from_is_err_and c.from_residual.result c.from_residual.ensures.1 in
    let now = g.K.Sink.held c.args.sink.now in
    let line = member_line c.args.member.now in
    rw (p.1, p.2) (part-longer all line (all ++ line) refl held now (text-left all held now c.args.batch.now.text.items on))

pub returns-clause-writes : goal.returns-clause-writes
returns-clause-writes g c = λ all held on.
    let now = g.K.Sink.held c.args.sink.now in
    let line = member_line c.args.member.now in
    text-written (all ++ line) held now c.put_member.new.into.items
    (text-more all held now c.args.batch.now.text.items on line c.put_member.new.into.items c.in_ok-put_member.ensures)
    (g.K.Sink.held c.write.new.sink) c.write.new.self.text.items c.write.result c.write.ensures.writes c.write.ensures.empty
