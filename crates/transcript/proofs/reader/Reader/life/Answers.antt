use Rattle.std.proofs.Common.{sym, ◌∙◌}
use Rattle.transcript.proofs.NamesRead.{answered-again}
use Rattle.transcript.proofs.reader.Reader.life.Goals as goal

pub returns-then-is_some-clause-answered : goal.returns-then-is_some-clause-answered
returns-then-is_some-clause-answered c =
    answered-again c.args.self.now c.self.inside.names.items c.as_slice.result.now
    c.as_slice-then-is_some.result.now c.args.line.now c.args.name c.octets.result.now
    c.answer_fact.result c.place_of.result c.self.view_is c.as_slice.ensures.value
    c.as_slice-then-is_some.ensures.value c.octets.ensures.value c.place_of.ensures
    (sym c.is_some.ensures ∙ c.if-is_some.true) c.answer_fact.ensures.answers
    c.answer_fact.ensures.frames
