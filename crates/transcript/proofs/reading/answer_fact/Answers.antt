use Rattle.std.proofs.Common.{true}
use Rattle.std.specs.Prelude.{codes}
use Rattle.transcript.specs.inside.Taking.{words_behind}
use Rattle.transcript.proofs.Branches.{tested}
use Rattle.transcript.proofs.Framings.{for-data}
use Rattle.transcript.proofs.reading.answer_fact.Goals as goal

pub returns-then-eq-2-clause-frames : goal.returns-then-eq-2-clause-frames
returns-then-eq-2-clause-frames c =
    for-data c.args.names.now c.args.line.now c.split_word.result.0.now
    (words_behind c.split_word.result.1.now) c.arrived.result c.split_word.ensures
    (tested _ _ (codes "data") _ true c.eq-2.ensures c.as_slice-2.ensures c.if-eq-2.true)
