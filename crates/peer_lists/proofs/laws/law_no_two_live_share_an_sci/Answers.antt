use Rattle.peer_lists.proofs.EveryHistory.{no-shared-sci}
use Rattle.peer_lists.proofs.laws.law_no_two_live_share_an_sci.Goals as goal

pub returns : goal.returns
returns c = no-shared-sci
