use Rattle.std.proofs.Common.{◌≡◌, ◌++◌, drop, filter, option_to_list}
use Rattle.server_election.specs.Election.{eligible, least, may_serve}
use Rattle.server_election.proofs.election.elect.Given as goal

-- the best so far and those to come give the least of all
abbrev pub invariant-loop-candidate : goal.invariant-loop-candidate
invariant-loop-candidate l =
    least (option_to_list l.best ++ filter may_serve (drop l.candidate-index l.live)) ≡ least (eligible l.own l.live)
