use Rattle.std.proofs.Common.{arith}
use Rattle.mkpdu_codec.proofs.Unique.{answer_found, answer_only, answer_refused, answer_memory}
use Rattle.mkpdu_codec.proofs.reading.read.Goals as goal

pub returns-clause-found : goal.returns-clause-found
returns-clause-found c = answer_found c.args.frame.now c.spelled.result (λ i. omega (arith, c.type_inv.frame i)) c.spelled.ensures

pub returns-clause-only : goal.returns-clause-only
returns-clause-only c = λ a m check spells. answer_only c.args.frame.now c.spelled.result a m check c.spelled.ensures spells

pub returns-clause-refused : goal.returns-clause-refused
returns-clause-refused c = λ e. answer_refused c.args.frame.now c.spelled.result e c.spelled.ensures

pub returns-clause-memory : goal.returns-clause-memory
returns-clause-memory c = λ was. answer_memory c.args.frame.now c.spelled.result c.spelled.ensures was
