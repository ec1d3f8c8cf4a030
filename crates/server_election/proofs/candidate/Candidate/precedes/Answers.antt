use Rattle.std.proofs.Common.{rules}
use Rattle.server_election.proofs.candidate.Candidate.precedes.Goals as goal

pub returns : goal.returns
returns c = search rules
