use Rattle.worker_races.proofs.GoesOn.{gone-more, performed-more, run-more}
use Rattle.worker_races.proofs.laws.law_control_goes_on.Goals as goal

pub returns-clause-run : goal.returns-clause-run
returns-clause-run c r performed t x = run-more performed r t x

pub returns-clause-performed : goal.returns-clause-performed
returns-clause-performed c = performed-more

pub returns-clause-gone : goal.returns-clause-gone
returns-clause-gone c = gone-more
