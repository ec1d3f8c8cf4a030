use Rattle.transcript.proofs.Texts.{texts_differ}
use Rattle.transcript.proofs.laws.law_texts_differ.Goals as goal

pub returns : goal.returns
returns c = texts_differ
