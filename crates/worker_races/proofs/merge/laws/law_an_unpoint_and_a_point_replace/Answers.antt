use Rattle.worker_races.proofs.weaving.Replaced.{replaced-by}
use Rattle.worker_races.proofs.merge.laws.law_an_unpoint_and_a_point_replace.Goals as goal

pub returns : goal.returns
returns c = replaced-by
