use Rattle.std.proofs.lemmas.Result.{err_from_is_err_and}
use Rattle.text_lines.specs.Moments.{moment}
use Rattle.transcript_picture.proofs.Ending.{drawn-end, drawn-err, not-drawn}
use Rattle.transcript_picture.proofs.drawing.draw.Goals as goal

pub returns-in_err-reading-clause-drawn : goal.returns-in_err-reading-clause-drawn
returns-in_err-reading-clause-drawn g c = λ text told.
    let p = err_from_is_err_and c.from_residual.result c.from_residual.ensures.1 in
    rw (p.1, p.2) (not-drawn text _)

pub returns-in_err-read_transcript-clause-drawn : goal.returns-in_err-read_transcript-clause-drawn
returns-in_err-read_transcript-clause-drawn g c = λ text told.
    let p = err_from_is_err_and c.from_residual-in_err-read_transcript.result c.from_residual-in_err-read_transcript.ensures.1 in
    let fresh = c.in_ok-reading.ensures in
    rw (p.1, p.2) (drawn-err _ (moment c.in_ok-reading.reading.taker (tt {0}))
    (moment c.read_transcript.new.reading.taker c.read_transcript.new.outlet) text _ _ c.in_err-read_transcript.field-0.0
    (c.in_err-read_transcript.ensures.read text told fresh.0 fresh.1 (rw fresh.2 c.new.ensures)))

pub returns-clause-drawn : goal.returns-clause-drawn
returns-clause-drawn g c = λ text told.
    let fresh = c.in_ok-reading.ensures in
    drawn-end _ (moment c.in_ok-reading.reading.taker (tt {0}))
    (moment c.read_transcript.new.reading.taker c.read_transcript.new.outlet) text _ _ c.finished.result c.finished.ensures
    (c.in_ok-read_transcript.ensures.read text told fresh.0 fresh.1 (rw fresh.2 c.new.ensures))
