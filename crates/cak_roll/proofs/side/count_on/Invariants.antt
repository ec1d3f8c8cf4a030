use Rattle.std.proofs.Common.{◌≡◌, ◌++◌, replicate}
use Rattle.cak_roll.proofs.side.count_on.Given as goal

abbrev pub invariant-loop : goal.invariant-loop
invariant-loop l = l.draws.items ≡ l.initial.draws.items ++ replicate l.counter l.next
