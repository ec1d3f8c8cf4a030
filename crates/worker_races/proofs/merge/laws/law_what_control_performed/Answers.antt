use Rattle.worker_races.proofs.weaving.Performed.{all-given, all-told}
use Rattle.worker_races.proofs.merge.laws.law_what_control_performed.Goals as goal

pub returns-clause-given : goal.returns-clause-given
returns-clause-given c = all-given

pub returns-clause-told : goal.returns-clause-told
returns-clause-told c = all-told
