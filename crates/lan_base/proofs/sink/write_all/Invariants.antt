use Rattle.std.proofs.Common.{◌≡◌, ◌≤◌, ◌-◌, length, take}
use Rattle.lan_base.specs.Told.{after}
use Rattle.lan_base.proofs.sink.write_all.Given as goal

-- the octets so far were appended, and the count of faults has not fallen
abbrev pub invariant-loop-written : goal.invariant-loop-written
invariant-loop-written g l = let k = g.K.Sink in
    record {
      within : l.written ≤ length l.octets;
      appended : k.held l.sink ≡ after (k.held l.fn.sink) (take l.written l.octets);
      counts : k.faults l.fn.sink ≤ k.faults l.sink;
    }

abbrev pub decreases-loop-written : goal.decreases-loop-written
decreases-loop-written g l = length l.octets - l.written
