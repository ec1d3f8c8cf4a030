use Rattle.worker_races.proofs.weaving.FromRun.{positive}
use Rattle.worker_races.proofs.weaving.GivenMoves.{moves-given, follows-all}
use Rattle.worker_races.proofs.merge.laws.law_control_is_raced.Goals as goal

pub returns-clause-moves : goal.returns-clause-moves
returns-clause-moves c settings users ans r moves stepped given = moves-given settings users ans r moves stepped given

pub returns-clause-shows : goal.returns-clause-shows
returns-clause-shows c settings users ans r stepped under s k is = (positive settings users s r k stepped is, under s k is)

pub returns-clause-follows : goal.returns-clause-follows
returns-clause-follows c settings users ans r moves s pointed stepped given past low =
    follows-all settings users ans s pointed r moves stepped given past low
