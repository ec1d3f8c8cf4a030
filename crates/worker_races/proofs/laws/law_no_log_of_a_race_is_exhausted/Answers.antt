use Rattle.worker_races.proofs.Races.{none-of-race}
use Rattle.worker_races.proofs.laws.law_no_log_of_a_race_is_exhausted.Goals as goal

pub returns : goal.returns
returns c race is = none-of-race race is c.law_few_numbers_are_lost.ensures
