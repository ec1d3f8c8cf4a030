use Rattle.std.proofs.Common.{◌≡◌, ◌+◌, ℕ, Bool, length}
use Rattle.known_keys.specs.Numbered.{greatest_first}
use Rattle.known_keys.proofs.Greatest.{IsLeft}
use Rattle.known_keys.proofs.falling.append_both.Given as goal

abbrev pub invariant-loop-a : goal.invariant-loop-a
invariant-loop-a l = (p q : ℕ → Bool) (k : ℕ) → l.first ≡ greatest_first p k
    → l.second ≡ greatest_first q k → IsLeft p q l.one l.other l.numbers.items l.initial.numbers.items k

abbrev pub decreases-loop-a : goal.decreases-loop-a
decreases-loop-a l = length l.one + length l.other
