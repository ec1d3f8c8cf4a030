use Rattle.worker_races.proofs.weaving.Controlled.{race-rises}
use Rattle.worker_races.proofs.merge.laws.law_places_rise_along_a_log.Goals as goal

pub returns : goal.returns
returns c = race-rises
