use Rattle.std.proofs.lemmas.Result.{err_from_is_err_and}
use Rattle.text_lines.specs.Moments.{moment}
use Rattle.transcript_check.proofs.Ending.{judged-err, judged-ok, not-judged}
use Rattle.transcript_check.proofs.judging.judge.Goals as goal

pub returns-in_err-reading-clause-judged : goal.returns-in_err-reading-clause-judged
returns-in_err-reading-clause-judged g c = λ text told.
    let p = err_from_is_err_and c.from_residual.result c.from_residual.ensures.1 in
    rw (p.1, p.2) (not-judged text _)

pub returns-in_err-read_transcript-clause-judged : goal.returns-in_err-read_transcript-clause-judged
returns-in_err-read_transcript-clause-judged g c = λ text told.
    let p = err_from_is_err_and c.from_residual-in_err-read_transcript.result c.from_residual-in_err-read_transcript.ensures.1 in
    let fresh = c.in_ok-reading.ensures in
    rw (p.1, p.2) (judged-err _ (moment c.in_ok-reading.reading.taker (tt {0}))
    (moment c.read_transcript.new.reading.taker c.read_transcript.new.outlet) text _ _ c.in_err-read_transcript.field-0.0
    (c.in_err-read_transcript.ensures.read text told fresh.0 fresh.1 (rw fresh.2 c.new.ensures)))

pub returns-clause-judged : goal.returns-clause-judged
returns-clause-judged g c = λ text told.
    let fresh = c.in_ok-reading.ensures in
    judged-ok _ (moment c.in_ok-reading.reading.taker (tt {0}))
    (moment c.read_transcript.new.reading.taker c.read_transcript.new.outlet) text _ _ c.verdict.result
    (λ facts stands. c.verdict.ensures facts (rw c.taker.ensures stands))
    (c.in_ok-read_transcript.ensures.read text told fresh.0 fresh.1 (rw fresh.2 c.new.ensures))
