use Rattle.worker_races.proofs.weaving.FactsTell.{facts-tell, step-tells}
use Rattle.worker_races.proofs.merge.laws.law_facts_tell_what_they_move.Goals as goal

pub returns-clause-facts : goal.returns-clause-facts
returns-clause-facts c = facts-tell

pub returns-clause-step : goal.returns-clause-step
returns-clause-step c = step-tells
