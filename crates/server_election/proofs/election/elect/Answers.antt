use Rattle.std.proofs.Common.{rules}
use Rattle.server_election.proofs.election.elect.Goals as goal

pub returns-then-is_empty : goal.returns-then-is_empty
returns-then-is_empty c = search rules
