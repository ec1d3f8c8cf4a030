use Rattle.transcript.proofs.NamesRead.{one-fact, are-after}
use Rattle.transcript.proofs.laws.law_a_line_is_one_fact.Goals as goal

pub returns : goal.returns
returns c = record {
  one = λ names line after then this that are reads again.
      one-fact names line after then this that are reads again;
  named = λ names line after fact are reads. are-after names line after fact are reads;
}
