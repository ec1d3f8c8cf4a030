use Rattle.std.proofs.Common.{◌≡◌, ◌+◌, ℕ, length}
use Rattle.key_spans.specs.Courts.{court_at}
use Rattle.key_spans.proofs.reigns.Reigns.reach.Given as goal

abbrev pub invariant-loop : goal.invariant-loop
invariant-loop l =
    (l.end ≡ l.station + 1) × (length l.self-inside.courts.items ≡ l.counter)
    × (l.self-inside.clock ≡ l.fn.self.clock)
    × ((s : ℕ) → court_at l.self-inside.courts.items s ≡ court_at l.fn.self.courts s)
