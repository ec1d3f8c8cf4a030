use Rattle.std.proofs.Common.{◌≡◌, ◌≤◌, ◌-◌, length}
use Rattle.lan_base.specs.Told.{before}
use Rattle.lan_base.proofs.source.read_all.Given as goal

-- what was left at first is what was read so far and then what is left
abbrev pub invariant-loop-octets : goal.invariant-loop-octets
invariant-loop-octets g l = let s = g.S.Source in
    record {
      within : length l.octets ≤ l.limit;
      all : s.left l.fn.source ≡ before l.octets (s.left l.source);
      counts : s.faults l.fn.source ≤ s.faults l.source;
    }

abbrev pub decreases-loop-octets : goal.decreases-loop-octets
decreases-loop-octets g l = l.limit - length l.octets
