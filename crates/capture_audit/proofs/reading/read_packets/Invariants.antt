use Rattle.std.proofs.Common.{◌≤◌, ◌-◌, ◌^◌, List, ℕ}
use Rattle.std.specs.Prelude.{Bool, Option}
use Rattle.key_ring.specs.Rings.{Ring}
use Rattle.capture_audit.specs.declared.asks.Asks.{Asks}
use Rattle.capture_audit.specs.inside.Auditing.{CanRead, IsAuditing}
use Rattle.capture_audit.proofs.reading.read_packets.Given as goal

abbrev pub invariant-loop-ending : goal.invariant-loop-ending
invariant-loop-ending g l =
    let left = g.S.Source.left in
    let held = g.K.Sink.held in
    record {
      can : CanRead l.reader l.auditor l.batch;
      reads : (asks : Asks) (ring : Ring) (told before : Option (List ℕ))
          → IsAuditing asks ring told before l.fn.reader (left l.fn.source) (held l.fn.sink) l.fn.auditor l.fn.batch
          → IsAuditing asks ring told before l.reader (left l.source) (held l.sink) l.auditor l.batch;
      reads_on : g.S.Source.faults l.fn.source ≤ g.S.Source.faults l.source;
      writes_on : g.K.Sink.faults l.fn.sink ≤ g.K.Sink.faults l.sink;
    }

abbrev pub decreases-loop-ending : goal.decreases-loop-ending
decreases-loop-ending g l = 2 ^ 32 - l.reader.supply.given
