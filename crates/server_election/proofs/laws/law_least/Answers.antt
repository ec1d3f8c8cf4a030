use Rattle.server_election.proofs.Elected.{IsLeast-elected}
use Rattle.server_election.proofs.laws.law_least.Goals as goal

pub returns : goal.returns
returns c = IsLeast-elected
