use Rattle.least_pairs.specs.Pairs.{Breaks}
use Rattle.least_pairs.proofs.Verdicts.{one-verdict}
use Rattle.least_pairs.proofs.laws.law_one_verdict.Goals as goal

pub returns : goal.returns
returns g c = λ agree noted one other a b. one-verdict (Breaks g.row.K.Denot g.row.V.Denot agree noted) one other a b
