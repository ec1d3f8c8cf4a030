use Rattle.worker_races.proofs.weaving.EventTold.{event-told}
use Rattle.worker_races.proofs.weaving.MoveAt.{given-at, told-at}
use Rattle.worker_races.proofs.merge.laws.law_a_step_is_given.Goals as goal

pub returns-clause-given : goal.returns-clause-given
returns-clause-given c settings users s top r x stepped step own = given-at settings users s top r x stepped step own

pub returns-clause-told : goal.returns-clause-told
returns-clause-told c settings users s top r x ans stepped step own under =
    told-at settings users s top r x stepped step own ans under (event-told settings s r x top users stepped step own)
