use Rattle.worker_races.proofs.Races.{race-steps, race-rises, race-few, race-is, race-control}
use Rattle.worker_races.proofs.laws.law_a_race_of_workers_is_a_race.Goals as goal

pub returns-clause-raced : goal.returns-clause-raced
returns-clause-raced c race is = race-is race is c.law_few_numbers_are_lost.ensures

pub returns-clause-steps : goal.returns-clause-steps
returns-clause-steps c race is = race-steps race is

pub returns-clause-rising : goal.returns-clause-rising
returns-clause-rising c race is = race-rises race is c.law_few_numbers_are_lost.ensures

pub returns-clause-few : goal.returns-clause-few
returns-clause-few c race is = race-few race is

pub returns-clause-control : goal.returns-clause-control
returns-clause-control c race = race-control race
