use Rattle.std.proofs.Common.{◌≡◌, ◌+◌, ℕ, length}
use Rattle.key_spans.specs.Seats.{seat_at}
use Rattle.key_spans.proofs.seats.Seats.reach.Given as goal

abbrev pub invariant-loop : goal.invariant-loop
invariant-loop l =
    (l.end ≡ l.place + 1) × (length l.self-inside.seats.items ≡ l.counter)
    × (l.self-inside.clock ≡ l.fn.self.clock)
    × ((s : ℕ) → seat_at l.self-inside.seats.items s ≡ seat_at l.fn.self.seats s)
