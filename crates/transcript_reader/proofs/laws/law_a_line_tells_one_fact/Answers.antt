use Rattle.transcript_reader.proofs.Course.{OneFact, one-course, names-then}
use Rattle.transcript_reader.proofs.laws.law_a_line_tells_one_fact.Goals as goal

pub returns : goal.returns
returns c = record {
  one = λ known line after then this that are t u. one-course law known line after then this that are t u;
  named = λ known line then fact are t. names-then law known line then fact are t;
}
  where
    law : OneFact
    law = record {
      one = c.law_a_line_is_one_fact.ensures.one;
      named = c.law_a_line_is_one_fact.ensures.named;
    }
