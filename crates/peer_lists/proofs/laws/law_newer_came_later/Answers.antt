use Rattle.peer_lists.proofs.EveryHistory.{newer-is}
use Rattle.peer_lists.proofs.laws.law_newer_came_later.Goals as goal

pub returns : goal.returns
returns c = newer-is
