use Rattle.std.proofs.Common.{◌∙◌, Err, sym, ap, arith}
use Rattle.std.proofs.lemmas.Result.{err_from_is_err_and}
use Rattle.capture_audit.specs.declared.auditor.Auditor.{Auditor}
use Rattle.capture_audit.specs.declared.end.AuditEnd.{AuditEnd}
use Rattle.capture_audit.proofs.Opening.{not-set-so, set-ends, set-told}
use Rattle.capture_audit.proofs.auditing.audit_with.Goals as goal

pub returns-in_err-auditor-clause-audited : goal.returns-in_err-auditor-clause-audited
returns-in_err-auditor-clause-audited g c = λ text is.
    let p = err_from_is_err_and c.from_residual.result c.from_residual.ensures.1 in
    let left = g.S.Source.left c.args.source.now in
    rw (p.1, p.2) (set-ends Auditor c.args.asks text left left (g.K.Sink.held c.args.sink.now) _ c.args.ring c.args.supply
    c.in_err-auditor.field-0.0 is c.in_err-auditor.ensures.ends)

pub returns-in_err-auditor-clause-read_fault : goal.returns-in_err-auditor-clause-read_fault
returns-in_err-auditor-clause-read_fault g c =
    let p = err_from_is_err_and c.from_residual.result c.from_residual.ensures.1 in record {
      rose = λ is. absurd ((not-set-so Auditor c.args.ring c.in_err-auditor.field-0.0 c.in_err-auditor.ensures.ends).0
          (cc (sym (p.1 ∙ ap (λ (e : AuditEnd). Err e) p.2) ∙ is)));
      counts = omega arith;
    }

pub returns-in_err-auditor-clause-write_fault : goal.returns-in_err-auditor-clause-write_fault
returns-in_err-auditor-clause-write_fault g c =
    let p = err_from_is_err_and c.from_residual.result c.from_residual.ensures.1 in record {
      rose = λ is. absurd ((not-set-so Auditor c.args.ring c.in_err-auditor.field-0.0 c.in_err-auditor.ensures.ends).1
          (cc (sym (p.1 ∙ ap (λ (e : AuditEnd). Err e) p.2) ∙ is)));
      counts = omega arith;
    }

pub returns-clause-audited : goal.returns-clause-audited
returns-clause-audited g c = λ text is.
    c.audit_capture.ensures.audited text c.args.ring is
    (c.new-batch.ensures.stands c.args.ring c.in_ok-auditor.auditor (c.in_ok-auditor.ensures.keeps)
    (set-told c.args.asks c.args.ring c.of.new.into.items c.new-text.result.items c.new-text.ensures.items c.in_ok-auditor.ensures.lines))

pub returns-clause-read_fault : goal.returns-clause-read_fault
returns-clause-read_fault g c = record {
  rose = c.audit_capture.ensures.read_fault c.args.ring
      (c.new-batch.ensures.stands c.args.ring c.in_ok-auditor.auditor (c.in_ok-auditor.ensures.keeps)
      (set-told c.args.asks c.args.ring c.of.new.into.items c.new-text.result.items c.new-text.ensures.items c.in_ok-auditor.ensures.lines));
  counts = c.audit_capture.ensures.reads;
}

pub audit_capture-requires-clause-ready : goal.audit_capture-requires-clause-ready
audit_capture-requires-clause-ready g c = λ κs lives. c.new-batch.ensures.ready c.in_ok-auditor.auditor.groups
