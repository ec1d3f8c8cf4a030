use Rattle.peer_lists.proofs.EveryHistory.{says-known, hopes-known, known-is-something}
use Rattle.peer_lists.proofs.laws.law_known_is_live_potential_or_displaced.Goals as goal

pub returns-clause-live : goal.returns-clause-live
returns-clause-live c = says-known

pub returns-clause-potential : goal.returns-clause-potential
returns-clause-potential c = hopes-known

pub returns-clause-known : goal.returns-clause-known
returns-clause-known c = known-is-something
