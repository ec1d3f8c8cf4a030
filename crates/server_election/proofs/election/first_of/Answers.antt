use Rattle.std.proofs.Common.{rules}
use Rattle.server_election.proofs.election.first_of.Goals as goal

pub returns-then-precedes : goal.returns-then-precedes
returns-then-precedes c = search rules
