use Rattle.least_pairs.proofs.Verdicts.{front-stays}
use Rattle.least_pairs.proofs.laws.law_a_front_stays_broken.Goals as goal

pub returns : goal.returns
returns g c = λ agree end front whole pair is was. front-stays g.row.K.Denot g.row.V.Denot agree end front whole pair is was
