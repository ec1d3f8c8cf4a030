use Rattle.worker_races.proofs.weaving.Recount.{rising}
use Rattle.worker_races.proofs.merge.laws.law_a_race_rises.Goals as goal

pub returns : goal.returns
returns c settings users base ans pointed r steps moves logs are race = rising settings users base ans pointed r steps moves logs are race
