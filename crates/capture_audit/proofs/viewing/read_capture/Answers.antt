use Rattle.std.proofs.Common.{Some, None}
use Rattle.std.proofs.lemmas.Result.{err_from_is_err_and}
use Rattle.capture_audit.proofs.Opening.{begins, head-read, none-told, text-read}
use Rattle.capture_audit.proofs.Seeing.{captured, never-failed, open-views}
use Rattle.capture_audit.proofs.viewing.read_capture.Goals as goal

pub returns-in_err-reader-clause-reads : goal.returns-in_err-reader-clause-reads
returns-in_err-reader-clause-reads g c = λ asks text ring is stands.
    let p = err_from_is_err_and c.from_residual.result c.from_residual.ensures.1 in
    rw (p.1, p.2) (open-views text (g.S.Source.left c.open.new.source) c.in_err-reader.field-0.0
    (c.in_err-reader.ensures.opens text ring is))

pub returns-clause-reads : goal.returns-clause-reads
returns-clause-reads g c = λ asks text ring is stands.
    let left = g.S.Source.left c.args.source.now in
    let left_then = g.S.Source.left c.open.new.source in
    let opens = c.in_ok-reader.ensures.opens text ring is in
    captured asks text ring (g.S.Source.left c.read_quietly.new.source) c.read_quietly.new.auditor
    c.read_quietly.new.batch None c.read_quietly.result
    (head-read text left left_then ring c.args.supply c.in_ok-reader.reader is opens)
    c.read_quietly.ensures.unwritten
    (c.read_quietly.ensures.reads asks ring (Some text)
    (begins asks ring (Some text) c.in_ok-reader.reader left_then None c.args.auditor.now c.args.batch.now stands
    (text-read text c.in_ok-reader.reader left_then opens.1)))

pub returns-clause-read_fault : goal.returns-clause-read_fault
returns-clause-read_fault g c = λ asks ring stands is.
    let left_then = g.S.Source.left c.open.new.source in
    absurd (never-failed asks ring None None (g.S.Source.left c.read_quietly.new.source) None
    c.read_quietly.new.auditor c.read_quietly.new.batch c.read_quietly.result
    (c.read_quietly.ensures.reads asks ring None
    (begins asks ring None c.in_ok-reader.reader left_then None c.args.auditor.now c.args.batch.now stands
    (none-told c.in_ok-reader.reader left_then))) is)
