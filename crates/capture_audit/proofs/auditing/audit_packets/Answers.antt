use Rattle.std.proofs.Common.{◌∙◌, Some, Ok, Err, None, sym, ap}
use Rattle.std.proofs.lemmas.Result.{err_from_is_err_and}
use Rattle.audit_report.specs.declared.ending.Ending.{Ending}
use Rattle.capture_audit.specs.declared.end.AuditEnd.{AuditEnd}
use Rattle.capture_audit.proofs.Reporting.{not-failed, reads-end, write-stops, written-on}
use Rattle.capture_audit.proofs.auditing.audit_packets.Goals as goal

pub returns-in_err-write-clause-audited : goal.returns-in_err-write-clause-audited
returns-in_err-write-clause-audited g c = λ text ring held head at.
    let asks = c.args.asks in
    let p = err_from_is_err_and c.from_residual.result c.from_residual.ensures.1 in
    let left = g.S.Source.left c.args.source.now in
    let now = g.K.Sink.held c.args.sink.now in
    let then = g.K.Sink.held c.write.new.sink in
    let a = c.args.auditor.now in
    let b = c.args.batch.now in
    rw (p.1, p.2) (reads-end c.args.asks text ring left held then _ a b c.in_err-write.field-0.0 head
    (write-stops asks ring (Some text) held c.args.reader.now left now then a b at a b left c.in_err-write.field-0.0
    c.in_err-write.ensures.writes))

pub returns-in_err-ending-clause-audited : goal.returns-in_err-ending-clause-audited
returns-in_err-ending-clause-audited g c = λ text ring held head at.
    let asks = c.args.asks in
    let p = err_from_is_err_and c.from_residual-in_err-ending.result c.from_residual-in_err-ending.ensures.1 in
    let w = c.in_ok-write.ensures in
    rw (p.1, p.2) (reads-end c.args.asks text ring (g.S.Source.left c.read_packets.new.source) held
    (g.K.Sink.held c.read_packets.new.sink) _ c.read_packets.new.auditor c.read_packets.new.batch c.in_err-ending.field-0.0 head
    (c.in_err-ending.ensures.reads asks ring (Some text) held
    (written-on asks ring (Some text) held c.args.reader.now (g.S.Source.left c.args.source.now) (g.K.Sink.held c.args.sink.now)
    (g.K.Sink.held c.write.new.sink) c.args.auditor.now c.args.batch.now at c.write.new.self w.writes w.empty w.waiting w.trials w.asks)))

pub returns-in_err-ending-clause-read_fault : goal.returns-in_err-ending-clause-read_fault
returns-in_err-ending-clause-read_fault g c = λ ring held at is.
    let asks = c.args.asks in
    let p = err_from_is_err_and c.from_residual-in_err-ending.result c.from_residual-in_err-ending.ensures.1 in
    let w = c.in_ok-write.ensures in
    absurd (not-failed asks ring None held (g.S.Source.left c.read_packets.new.source)
    (g.K.Sink.held c.read_packets.new.sink) c.read_packets.new.auditor c.read_packets.new.batch c.in_err-ending.field-0.0
    (c.in_err-ending.ensures.reads asks ring None held
    (written-on asks ring None held c.args.reader.now (g.S.Source.left c.args.source.now) (g.K.Sink.held c.args.sink.now)
    (g.K.Sink.held c.write.new.sink) c.args.auditor.now c.args.batch.now at c.write.new.self w.writes w.empty w.waiting w.trials w.asks))
    (cc (sym (p.1 ∙ ap (λ (e : AuditEnd). Err e) p.2) ∙ is)))

pub returns-clause-audited : goal.returns-clause-audited
returns-clause-audited g c = λ text ring held head at.
    let asks = c.args.asks in
    let w = c.in_ok-write.ensures in
    c.report.ensures.reports text ring (g.S.Source.left c.read_packets.new.source) held
    (g.S.Source.faults c.args.source.now) (g.S.Source.faults c.read_packets.new.source) head
    (λ e. c.in_ok-ending.ensures.read_fault.rose (ap (λ (x : Ending). Ok x) e))
    (c.in_ok-ending.ensures.reads asks ring (Some text) held
    (written-on asks ring (Some text) held c.args.reader.now (g.S.Source.left c.args.source.now) (g.K.Sink.held c.args.sink.now)
    (g.K.Sink.held c.write.new.sink) c.args.auditor.now c.args.batch.now at c.write.new.self w.writes w.empty w.waiting w.trials w.asks))
