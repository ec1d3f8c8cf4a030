use Rattle.std.proofs.Common.{Err, refl, ap}
use Rattle.std.proofs.lemmas.Result.{err_from_is_err_and}
use Rattle.text_lines.specs.Moments.{moment}
use Rattle.transcript_reader.proofs.OneTaken.{fact-stopped, line-unread, not-failed, same-error}
use Rattle.transcript_reader.proofs.reading.ReadingLineTaker.line.Goals as goal

pub returns-in-Err : goal.returns-in-Err
returns-in-Err g c =
    let t = g.T.FactTaker in
    let met = g.met.T.FactTaker in
    let self = c.args.self.now in
    let text = c.args.text.now in
    rw (c.not_read.ensures, c.unread.ensures) (record {
      takes = λ first facts counts took.
          line-unread t.rule t.courses first self.reader facts text self.count (moment self.taker c.args.outlet.now)
          c.line.new.self c.in-Err.fault t.unread counts took (met.breaks first _ facts)
          (λ e. met.untold self.reader facts text (c.in-Err.ensures.unread.0 (ap Err e)));
      grew = met.stays c.args.outlet.now;
      failed = λ is. absurd (not-failed c.in-Err.fault t.unread (same-error _ _ _ refl is));
    })

pub returns-in_err-fact : goal.returns-in_err-fact
returns-in_err-fact g c =
    let t = g.T.FactTaker in
    let self = c.args.self.now in
    let text = c.args.text.now in
    let fact = c.in-Ok.fact in
    let tells = c.in-Ok.ensures.read in
    let p = err_from_is_err_and c.from_residual.result c.from_residual.ensures.1 in
    rw (p.1, p.2) (record {
      takes = λ first facts counts took.
          fact-stopped t.rule t.courses first self.reader facts text c.line.new.self fact tells t.Refuses
          (λ why refuses. g.met.T.FactTaker.denied self.reader c.line.new.self facts text fact why tells refuses)
          self.count (moment c.fact.new.self c.fact.new.outlet) c.in_err-fact.field-0.0 counts
          (c.in_err-fact.ensures.takes first facts took);
      grew = c.in_err-fact.ensures.grew;
      failed = c.in_err-fact.ensures.failed;
    })
