use Rattle.peer_lists.proofs.EveryHistory.{lives-says, potentials-hopes, says-apart}
use Rattle.peer_lists.proofs.laws.law_live_exactly_where_it_says.Goals as goal

pub returns-clause-live : goal.returns-clause-live
returns-clause-live c = lives-says

pub returns-clause-potential : goal.returns-clause-potential
returns-clause-potential c = potentials-hopes

pub returns-clause-apart : goal.returns-clause-apart
returns-clause-apart c = says-apart
