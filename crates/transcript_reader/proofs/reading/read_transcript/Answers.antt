use Rattle.lan_base.specs.Ranges.{most_input}
use Rattle.transcript_reader.proofs.Reaching.{ends-err, ends-ok}
use Rattle.transcript_reader.proofs.Turning.{turned-err, turned-ok}
use Rattle.transcript_reader.proofs.reading.read_transcript.Goals as goal

pub returns-in-Ok-clause-read : goal.returns-in-Ok-clause-read
returns-in-Ok-clause-read g c = λ text told fresh none start.
    let t = g.T.FactTaker in
    ends-ok t.rule t.courses t.Grew t.Fails _ _ _ _ _ g.met.T.FactTaker.breaks fresh none start text
    c.in-Ok.ensures.reads told

pub returns-in-Err-clause-read : goal.returns-in-Err-clause-read
returns-in-Err-clause-read g c = λ text told fresh none start.
    let t = g.T.FactTaker in
    rw c.why_unfinished.ensures (ends-err t.rule t.courses t.Grew t.Fails _ _ _ _ _ g.met.T.FactTaker.breaks
    fresh none start text (c.law_lines_are_few.ensures most_input text) c.in-Err.end c.in-Err.ensures.reads told)

pub returns-in-Ok-clause-turned : goal.returns-in-Ok-clause-turned
returns-in-Ok-clause-turned g c = λ fresh none start.
    let t = g.T.FactTaker in
    let m = g.met.T.FactTaker in
    turned-ok t.rule t.courses t.Grew t.Fails _ _ _ m.breaks fresh none start m.stays m.further m.late
    g.S.Source.Gave _ _ c.in-Ok.ensures.turns

pub returns-in-Err-clause-turned : goal.returns-in-Err-clause-turned
returns-in-Err-clause-turned g c = λ fresh none start.
    let t = g.T.FactTaker in
    let m = g.met.T.FactTaker in
    rw c.why_unfinished.ensures (turned-err t.rule t.courses t.Grew t.Fails _ _ _ m.breaks fresh none start
    m.stays m.further m.late g.S.Source.Gave _ _ c.in-Err.end c.in-Err.ensures.turns)
