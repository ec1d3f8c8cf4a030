use Rattle.std.proofs.Common.{◌≡◌, ◌+◌, ℕ, length}
use Rattle.lan_base.specs.declared.association_number.AssociationNumber.{AssociationNumber}
use Rattle.key_spans.specs.Standing.{row_at}
use Rattle.key_spans.proofs.spans.Spans.reach.Given as goal

abbrev pub invariant-loop : goal.invariant-loop
invariant-loop l =
    (l.end ≡ l.station + 1) × (length l.self-inside.lanes.items ≡ l.counter)
    × (l.self-inside.clock ≡ l.fn.self.clock)
    × ((s : ℕ) (an : AssociationNumber)
    → row_at l.self-inside.lanes.items s an ≡ row_at l.fn.self.lanes s an)
