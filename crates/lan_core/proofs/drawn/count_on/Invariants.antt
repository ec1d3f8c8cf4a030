use Rattle.std.proofs.Common.{◌≡◌, ◌+◌, length}
use Rattle.lan_core.proofs.drawn.count_on.Given as goal

abbrev pub invariant-loop : goal.invariant-loop
invariant-loop l = length l.draws.items ≡ length l.initial.draws.items + l.counter
