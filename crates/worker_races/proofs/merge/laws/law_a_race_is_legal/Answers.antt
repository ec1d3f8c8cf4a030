use Rattle.worker_races.proofs.weaving.Controlled.{race-legal}
use Rattle.worker_races.proofs.merge.laws.law_a_race_is_legal.Goals as goal

pub returns : goal.returns
returns c = race-legal
