use Rattle.std.proofs.Common.{◌≡◌, ◌+◌, List}
use Rattle.std.specs.Prelude.{map}
use Rattle.capture_packets.specs.Packets.{Seen}
use Rattle.key_ring.specs.Rings.{Ring}
use Rattle.packet_verdicts.specs.Trials.{newest}
use Rattle.capture_audit.specs.Before.{Unwrapped, entries, number_behind}
use Rattle.capture_audit.specs.inside.Batches.{AreToldUpTo, AreWaiting}
use Rattle.capture_audit.specs.inside.Keeping.{IsSound, Keeps}
use Rattle.capture_audit.proofs.batch.tell_all.Given as goal

abbrev pub invariant-loop-each : goal.invariant-loop-each
invariant-loop-each l =
    IsSound l.auditor
    × (l.auditor.groups ≡ l.initial.auditor.groups)
    × (l.auditor.tally.all ≡ l.initial.auditor.tally.all + l.each-index)
    × ((ring : Ring) (before : List Unwrapped) (packets : List Seen) → Keeps ring before l.initial.auditor
    → AreWaiting l.asks ring (entries ring before) (map newest l.trials) (number_behind before) packets l.waiting
    → AreToldUpTo l.asks ring before packets (map newest l.trials) l.waiting l.each-index l.auditor
    l.initial.text.items l.text.items)
