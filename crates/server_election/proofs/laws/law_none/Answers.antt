use Rattle.server_election.proofs.Elected.{IsNobody-elected, elected-IsNobody}
use Rattle.server_election.proofs.laws.law_none.Goals as goal

pub returns : goal.returns
returns c own live = (IsNobody-elected own live, elected-IsNobody own live)
