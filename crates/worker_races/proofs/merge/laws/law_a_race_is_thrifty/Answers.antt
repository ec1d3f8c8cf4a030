use Rattle.worker_races.proofs.weaving.Raced.{race-thrifty}
use Rattle.worker_races.proofs.merge.laws.law_a_race_is_thrifty.Goals as goal

pub returns : goal.returns
returns c = race-thrifty
