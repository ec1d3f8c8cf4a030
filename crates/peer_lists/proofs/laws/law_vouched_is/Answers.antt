use Rattle.peer_lists.proofs.EveryHistory.{vouched-is}
use Rattle.peer_lists.proofs.laws.law_vouched_is.Goals as goal

pub returns : goal.returns
returns c = vouched-is
