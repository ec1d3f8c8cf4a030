use Rattle.std.proofs.lemmas.Result.{err_from_is_err_and}
use Rattle.text_lines.specs.Moments.{moment}
use Rattle.transcript_capture.proofs.OneFact.{fact-left, fact-recorded}
use Rattle.transcript_capture.proofs.recorder.RecordingFactTaker.fact.Goals as goal

pub returns-in_err-take-clause-takes : goal.returns-in_err-take-clause-takes
returns-in_err-take-clause-takes g c = λ first facts took.
    let p = err_from_is_err_and c.from_residual.result c.from_residual.ensures.1 in
    rw (p.1, p.2) (fact-left g.K.Sink.held first (moment c.take.new.self c.take.new.sink) facts c.args.fact.now
    c.args.self.now (g.K.Sink.held c.args.outlet.now) took.0 took.1 c.in_err-take.field-0.0
    (c.in_err-take.ensures.records facts took.0))

pub returns-clause-takes : goal.returns-clause-takes
returns-clause-takes g c = λ first facts took.
    fact-recorded g.K.Sink.held first (moment c.take.new.self c.take.new.sink) facts c.args.fact.now
    c.args.self.now (g.K.Sink.held c.args.outlet.now) took.0 took.1 c.in_ok-take.field-0 (tt {0})
    (c.in_ok-take.ensures.records facts took.0)
