use Rattle.std.proofs.Common.{◌≡◌, ◌-◌, ◌++◌, map, take, drop}
use Rattle.peer_lists.proofs.sent_numbers.SentNumbers.tick.Given as goal

abbrev pub invariant-loop-left : goal.invariant-loop-left
invariant-loop-left l = l.left-items ≡ map (λ n. n - 1) (take l.left-index l.initial.left-items) ++ drop l.left-index l.initial.left-items
