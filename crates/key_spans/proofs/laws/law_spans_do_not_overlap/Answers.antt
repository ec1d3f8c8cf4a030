use Rattle.key_spans.proofs.Apart.{no-overlap}
use Rattle.key_spans.proofs.laws.law_spans_do_not_overlap.Goals as goal

pub returns : goal.returns
returns c = no-overlap
