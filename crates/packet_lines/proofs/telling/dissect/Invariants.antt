use Rattle.std.proofs.Common.{◌≡◌, ◌≤◌, ◌-◌, ◌*◌, ◌^◌, ℕ, List, Some}
use Rattle.packet_lines.proofs.Ends.{HasTold}
use Rattle.packet_lines.proofs.telling.dissect.Given as goal

abbrev pub invariant-loop-line : goal.invariant-loop-line
invariant-loop-line g l =
    let left = g.S.Source.left in
    let held = g.K.Sink.held in
    record {
      told : (file : List ℕ) → left l.fn.source ≡ Some file
          → HasTold file l.reader.order l.reader.supply (left l.source) l.number (held l.fn.sink) (held l.sink);
      few : 16 * l.number ≤ l.reader.supply.given;
      reads : g.S.Source.faults l.fn.source ≤ g.S.Source.faults l.source;
      writes : g.K.Sink.faults l.fn.sink ≤ g.K.Sink.faults l.sink;
    }

abbrev pub decreases-loop-line : goal.decreases-loop-line
decreases-loop-line g l = 2 ^ 32 - l.reader.supply.given
