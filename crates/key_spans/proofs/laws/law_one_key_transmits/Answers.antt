use Rattle.key_spans.proofs.Sending.{one-number}
use Rattle.key_spans.proofs.laws.law_one_key_transmits.Goals as goal

pub returns : goal.returns
returns c = one-number
