use Rattle.std.proofs.Common.{◌≡◌, ◌+◌, ◌-◌, ℕ, vec_len}
use Rattle.next_numbers.specs.Numbers.{counted_next}
use Rattle.next_numbers.proofs.numbers.Numbers.raise.Given as goal

abbrev pub invariant-loop-alloc : goal.invariant-loop-alloc
invariant-loop-alloc l = (s e : ℕ)
    → counted_next l.self-inside.stations.items s e
    ≡ counted_next l.initial.self-inside.stations.items s e

abbrev pub decreases-loop-alloc : goal.decreases-loop-alloc
decreases-loop-alloc l = l.place + 1 - vec_len l.self-inside.stations
