use Rattle.std.proofs.Common.{◌≡◌, true, sym}
use Rattle.server_election.specs.Election.{may_serve}
use Rattle.server_election.proofs.Least.{least-two}
use Rattle.server_election.proofs.election.better.Goals as goal

pub returns-in-Some : goal.returns-in-Some
returns-in-Some c later =
    let passes : may_serve c.args.next.now ≡ true = sym c.if-not-may_serve.ensures in
    rw (c.in-Some.is, passes, c.first_of.ensures) (least-two c.in-Some.best c.args.next.now later)
