use Rattle.worker_races.proofs.weaving.WovenRun.{race-woven}
use Rattle.worker_races.proofs.merge.laws.law_a_race_is_woven.Goals as goal

pub returns : goal.returns
returns c = race-woven
