use Rattle.server_election.proofs.Order.{elected-permutation}
use Rattle.server_election.proofs.laws.law_order.Goals as goal

pub returns : goal.returns
returns c = elected-permutation
