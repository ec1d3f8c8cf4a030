use Rattle.transcript_check.proofs.OneRefusal.{OneFact, one-refusal, no-refusal}
use Rattle.transcript_check.proofs.laws.law_one_line_is_refused.Goals as goal

pub returns : goal.returns
returns c = record {
  one = λ lines number again why other r s. one-refusal law lines number again why other r s;
  none = λ lines number why r all. no-refusal law lines number why r all;
}
  where
    law : OneFact
    law = record {
      one = c.law_a_line_tells_one_fact.ensures.one;
      named = c.law_a_line_tells_one_fact.ensures.named;
    }
