use Rattle.peer_lists.proofs.EveryHistory.{says-other}
use Rattle.peer_lists.proofs.laws.law_live_is_not_own.Goals as goal

pub returns-clause-mi : goal.returns-clause-mi
returns-clause-mi c = λ own h m a e. (says-other own h m a e).0

pub returns-clause-sci : goal.returns-clause-sci
returns-clause-sci c = λ own h m a e. (says-other own h m a e).1
