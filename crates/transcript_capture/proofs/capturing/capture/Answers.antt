use Rattle.std.proofs.Common.{inl, inr}
use Rattle.std.proofs.lemmas.Result.{err_from_is_err_and}
use Rattle.text_lines.specs.Moments.{moment}
use Rattle.text_lines.specs.Reading.{sourced}
use Rattle.transcript_capture.specs.inside.Holding.{after-none, rose-earlier}
use Rattle.transcript_capture.proofs.Ends.{captured, captured-in-turn, head-ends, head-unbegun, not-captured, unbegun}
use Rattle.transcript_capture.proofs.capturing.capture.Goals as goal

pub returns-in_err-reading-clause-captured : goal.returns-in_err-reading-clause-captured
returns-in_err-reading-clause-captured g c = λ text told.
    let p = err_from_is_err_and c.from_residual.result c.from_residual.ensures.1 in
    rw (p.1, p.2) (not-captured text _ (g.K.Sink.held c.args.sink.now))

pub returns-in_err-write_head-clause-captured : goal.returns-in_err-write_head-clause-captured
returns-in_err-write_head-clause-captured g c = λ text told.
    let p = err_from_is_err_and c.from_residual-in_err-write_head.result c.from_residual-in_err-write_head.ensures.1 in
    rw (p.1, p.2) (head-ends text _ (g.K.Sink.held c.args.sink.now) (g.K.Sink.held c.write_head.new.sink)
    c.in_err-write_head.field-0.0 c.in_err-write_head.ensures.heads)

pub returns-clause-captured : goal.returns-clause-captured
returns-clause-captured g c = λ text told.
    let fresh = c.in_ok-reading.ensures in
    captured g.K.Sink.held g.K.Sink.faults (moment c.in_ok-reading.reading.taker c.write_head.new.sink)
    (moment c.read_transcript.new.reading.taker c.read_transcript.new.outlet) (g.K.Sink.held c.args.sink.now)
    c.in_ok-write_head.ensures.heads text
    (sourced (g.S.Source.left c.args.source.now) (g.S.Source.faults c.args.source.now))
    (sourced (g.S.Source.left c.read_transcript.new.source) (g.S.Source.faults c.read_transcript.new.source))
    c.read_transcript.result
    (c.read_transcript.ensures.read text told fresh.0 fresh.1 (rw fresh.2 (c.new.ensures, after-none (g.K.Sink.held c.write_head.new.sink))))

pub returns-clause-write_fault : goal.returns-clause-write_fault
returns-clause-write_fault g c = λ is.
    rose-earlier (g.K.Sink.faults c.args.sink.now) (g.K.Sink.faults c.write_head.new.sink)
    (g.K.Sink.faults c.read_transcript.new.outlet) c.write_head.ensures.counts
    (c.read_transcript.ensures.write_fault is)

pub returns-in_err-reading-clause-turned : goal.returns-in_err-reading-clause-turned
returns-in_err-reading-clause-turned g c =
    let p = err_from_is_err_and c.from_residual.result c.from_residual.ensures.1 in
    rw (p.1, p.2) (inl (unbegun c.args.source.now (g.K.Sink.held c.args.sink.now)))

pub returns-in_err-write_head-clause-turned : goal.returns-in_err-write_head-clause-turned
returns-in_err-write_head-clause-turned g c =
    let p = err_from_is_err_and c.from_residual-in_err-write_head.result c.from_residual-in_err-write_head.ensures.1 in
    rw (p.1, p.2) (inl (head-unbegun c.args.source.now (g.K.Sink.held c.args.sink.now)
    (g.K.Sink.held c.write_head.new.sink) c.in_err-write_head.field-0.0 c.in_err-write_head.ensures.heads))

pub returns-clause-turned : goal.returns-clause-turned
returns-clause-turned g c =
    let fresh = c.in_ok-reading.ensures in
    inr (captured-in-turn g.K.Sink.held g.K.Sink.faults (moment c.in_ok-reading.reading.taker c.write_head.new.sink)
    (moment c.read_transcript.new.reading.taker c.read_transcript.new.outlet) (g.K.Sink.held c.args.sink.now)
    c.in_ok-write_head.ensures.heads g.S.Source.Gave c.args.source.now c.read_transcript.new.source
    c.read_transcript.result
    (c.read_transcript.ensures.turned fresh.0 fresh.1
    (rw fresh.2 (c.new.ensures, after-none (g.K.Sink.held c.write_head.new.sink)))))
