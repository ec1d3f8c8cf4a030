use Rattle.std.proofs.Common.{◌++◌, List, ℕ, refl, subst}
use Rattle.std.specs.Prelude.{Err}
use Rattle.std.proofs.lemmas.Result.{err_from_is_err_and}
use Rattle.audit_report.specs.Members.{member_lines}
use Rattle.audit_report.specs.Report.{begun_lines, end_lines}
use Rattle.audit_report.specs.Verdicts.{last_lines}
use Rattle.capture_audit.proofs.WritingOn.{all-written, end-in-parts, nothing-written, part-written, some-end, some-last, stops, text-left, text-more}
use Rattle.member_notes.specs.declared.facts.Member.{Member}
use Rattle.capture_audit.specs.inside.Batches.{Writes}
use Rattle.capture_audit.specs.inside.Reporting.{IsWrittenOn, WritesOn}
use Rattle.capture_audit.proofs.report.write_end.Goals as goal

pub returns-in_err-begin_end-clause-writes : goal.returns-in_err-begin_end-clause-writes
returns-in_err-begin_end-clause-writes g c =
    let p = err_from_is_err_and c.from_residual.result c.from_residual.ensures.1 in
    let t = c.args.tally.now in
    let v = c.args.verdict.now in
    let now = g.K.Sink.held c.args.sink.now in
    let text = c.args.batch.now.text.items in
    let last = end_lines t v c.args.ending in
    rw (p.1, p.2) (part-written text last (text ++ last) refl now now (some-end t v c.args.ending)
    (text-left text now now text (nothing-written now text)))

pub returns-in_err-write_members-clause-writes : goal.returns-in_err-write_members-clause-writes
returns-in_err-write_members-clause-writes g c =
    let p = err_from_is_err_and c.from_residual-in_err-write_members.result c.from_residual-in_err-write_members.ensures.1 in
    let t = c.args.tally.now in
    let v = c.args.verdict.now in
    let now = g.K.Sink.held c.args.sink.now in
    let text = c.args.batch.now.text.items in
    let front = text ++ begun_lines t v c.args.ending in
    let begun = text-more text now now text (nothing-written now text) (begun_lines t v c.args.ending) c.begin_end.new.into.items c.in_ok-begin_end.ensures in
    rw (p.1, p.2) (stops (front ++ member_lines v.members) (last_lines t v) (text ++ end_lines t v c.args.ending)
    (end-in-parts t v text c.args.ending) now (g.K.Sink.held c.write_members.new.sink) (some-last t v)
    c.write_members.new.batch.text.items c.in_err-write_members.field-0.0
    (subst (λ (ms : List Member). WritesOn (front ++ member_lines ms) now (g.K.Sink.held c.write_members.new.sink)
    c.write_members.new.batch.text.items (Err c.in_err-write_members.field-0.0)) c.members.ensures
    (c.in_err-write_members.ensures.writes front now begun)))

pub returns-in_err-finish_end-clause-writes : goal.returns-in_err-finish_end-clause-writes
returns-in_err-finish_end-clause-writes g c =
    let p = err_from_is_err_and c.from_residual-in_err-finish_end.result c.from_residual-in_err-finish_end.ensures.1 in
    let t = c.args.tally.now in
    let v = c.args.verdict.now in
    let now = g.K.Sink.held c.args.sink.now in
    let then = g.K.Sink.held c.write_members.new.sink in
    let text = c.args.batch.now.text.items in
    let front = text ++ begun_lines t v c.args.ending in
    let begun = text-more text now now text (nothing-written now text) (begun_lines t v c.args.ending) c.begin_end.new.into.items c.in_ok-begin_end.ensures in
    rw (p.1, p.2) (part-written (front ++ member_lines v.members) (last_lines t v) (text ++ end_lines t v c.args.ending)
    (end-in-parts t v text c.args.ending) now then (some-last t v)
    (text-left (front ++ member_lines v.members) now then c.write_members.new.batch.text.items
    (subst (λ (ms : List Member). IsWrittenOn (front ++ member_lines ms) now then c.write_members.new.batch.text.items)
    c.members.ensures (c.in_ok-write_members.ensures.writes front now begun))))

pub returns-clause-writes : goal.returns-clause-writes
returns-clause-writes g c =
    let t = c.args.tally.now in
    let v = c.args.verdict.now in
    let now = g.K.Sink.held c.args.sink.now in
    let then = g.K.Sink.held c.write_members.new.sink in
    let last = g.K.Sink.held c.write.new.sink in
    let text = c.args.batch.now.text.items in
    let front = text ++ begun_lines t v c.args.ending in
    let begun = text-more text now now text (nothing-written now text) (begun_lines t v c.args.ending) c.begin_end.new.into.items c.in_ok-begin_end.ensures in
    let told = text-more (front ++ member_lines v.members) now then c.write_members.new.batch.text.items
    (subst (λ (ms : List Member). IsWrittenOn (front ++ member_lines ms) now then c.write_members.new.batch.text.items)
    c.members.ensures (c.in_ok-write_members.ensures.writes front now begun)) (last_lines t v) c.finish_end.new.into.items c.in_ok-finish_end.ensures in
    subst (λ (xs : List ℕ). Writes xs now last c.write.result) (end-in-parts t v text c.args.ending)
    (all-written ((front ++ member_lines v.members) ++ last_lines t v) now then c.finish_end.new.into.items told last c.write.result c.write.ensures.writes)
