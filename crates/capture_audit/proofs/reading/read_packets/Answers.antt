use Rattle.std.proofs.lemmas.Result.{err_from_is_err_and}
use Rattle.capture_audit.proofs.Going.{reads-stop}
use Rattle.capture_audit.proofs.reading.read_packets.Goals as goal

pub returns-in_err-ending-clause-reads : goal.returns-in_err-ending-clause-reads
returns-in_err-ending-clause-reads g c = λ asks ring told held at.
    let p = err_from_is_err_and c.from_residual.result c.from_residual.ensures.1 in
    rw (p.1, p.2) (reads-stop asks ring told held c.read_one.new.reader (g.S.Source.left c.read_one.new.source)
    (g.K.Sink.held c.read_one.new.sink) c.read_one.new.auditor c.read_one.new.batch c.in_err-ending.field-0.0
    (c.in_err-ending.ensures.reads asks ring told held (c.loop-ending.invariant.reads asks ring told held at)))

pub returns-in-Some-clause-reads : goal.returns-in-Some-clause-reads
returns-in-Some-clause-reads g c = λ asks ring told held at.
    rw c.in-Some.is at (c.in_ok-ending.ensures.reads asks ring told held (c.loop-ending.invariant.reads asks ring told held at))
