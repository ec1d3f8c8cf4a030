use Rattle.std.proofs.Common.{◌≡◌, ◌<◌, ℕ, List, false, nat_eq, get_or}
use Rattle.std.specs.Cmp.Lexicographic.{pointwise}
use Rattle.trace_acts.proofs.names.position.Given as goal

abbrev pub invariant-loop-place : goal.invariant-loop-place
invariant-loop-place l = (k : ℕ) (d : List ℕ) → k < l.place
    → pointwise nat_eq l.name (get_or l.names k d) ≡ false
