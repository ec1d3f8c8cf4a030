use Rattle.std.proofs.Common.{◌≡◌, ◌+◌, ◌-◌, ℕ, get_or, vec_len}
use Rattle.next_numbers.proofs.numbers.Counter.raise.Given as goal

abbrev pub invariant-loop-self : goal.invariant-loop-self
invariant-loop-self l = (e : ℕ)
    → get_or l.self-inside.by_epoch.items e 1 ≡ get_or l.initial.self-inside.by_epoch.items e 1

abbrev pub decreases-loop-self : goal.decreases-loop-self
decreases-loop-self l = l.place + 1 - vec_len l.self-inside.by_epoch
