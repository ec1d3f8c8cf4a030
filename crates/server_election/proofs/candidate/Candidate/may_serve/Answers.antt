use Rattle.std.proofs.Common.{rules}
use Rattle.server_election.proofs.candidate.Candidate.may_serve.Goals as goal

pub returns : goal.returns
returns c = search rules
