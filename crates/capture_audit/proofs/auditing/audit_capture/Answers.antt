use Rattle.std.proofs.Common.{Some, None}
use Rattle.std.proofs.lemmas.Result.{err_from_is_err_and}
use Rattle.capture_audit.proofs.Opening.{begins, failed-earlier, head-read, none-told, open-ends, rose-earlier, text-read}
use Rattle.capture_audit.proofs.auditing.audit_capture.Goals as goal

pub returns-in_err-reader-clause-audited : goal.returns-in_err-reader-clause-audited
returns-in_err-reader-clause-audited g c = λ text ring is stands.
    let p = err_from_is_err_and c.from_residual.result c.from_residual.ensures.1 in
    rw (p.1, p.2) (open-ends c.args.asks text (g.S.Source.left c.open.new.source) (g.K.Sink.held c.args.sink.now) _
    c.in_err-reader.field-0.0 (c.in_err-reader.ensures.opens text ring is))

pub returns-clause-audited : goal.returns-clause-audited
returns-clause-audited g c = λ text ring is stands.
    let asks = c.args.asks in
    let left = g.S.Source.left c.args.source.now in
    let left_then = g.S.Source.left c.open.new.source in
    let held = g.K.Sink.held c.args.sink.now in
    let opens = c.in_ok-reader.ensures.opens text ring is in
    failed-earlier c.args.asks text (g.S.Source.left c.audit_packets.new.source) held
    (g.K.Sink.held c.audit_packets.new.sink) _ _ c.audit_packets.result (rose-earlier _ _ _ c.open.ensures.read_fault.counts)
    (c.audit_packets.ensures.audited text ring held
    (head-read text left left_then ring c.args.supply c.in_ok-reader.reader is opens)
    (begins asks ring (Some text) c.in_ok-reader.reader left_then held c.args.auditor.now c.args.batch.now stands
    (text-read text c.in_ok-reader.reader left_then opens.1)))

pub returns-clause-read_fault : goal.returns-clause-read_fault
returns-clause-read_fault g c = λ ring stands is.
    let asks = c.args.asks in
    let left_then = g.S.Source.left c.open.new.source in
    let held = g.K.Sink.held c.args.sink.now in
    let rose = c.audit_packets.ensures.read_fault ring held
    (begins asks ring None c.in_ok-reader.reader left_then held c.args.auditor.now c.args.batch.now stands
    (none-told c.in_ok-reader.reader left_then)) is in
    rose-earlier _ _ _ c.open.ensures.read_fault.counts rose
