use Rattle.std.proofs.Common.{◌≡◌, ◌≤◌, ◌-◌, ◌+◌, ℕ, List, [], length}
use Rattle.lan_base.specs.Ranges.{most_input}
use Rattle.octet_supply.specs.Supplying.{Stands, most_given}
use Rattle.key_ring.specs.Rings.{AreKeyed, no_ring}
use Rattle.key_ring.proofs.Steps.{HasRead}
use Rattle.key_ring.proofs.ring.KeyRing.read_lines.Given as goal

abbrev pub invariant-loop-line : goal.invariant-loop-line
invariant-loop-line g l =
    let left = g.S.Source.left in
    let faults = g.S.Source.faults in
    record {
      read : (text : List ℕ) → l.fn.self ≡ no_ring → Stands most_input text [] l.fn.supply (left l.fn.source)
          → HasRead text l.number l.self l.supply (left l.source);
      most : most_given l.supply ≤ most_input;
      number : l.number ≤ l.supply.given;
      few : length l.self.groups ≤ length l.fn.self.groups + l.number;
      keyed : AreKeyed l.fn.self → AreKeyed l.self;
      counts : faults l.fn.source ≤ faults l.source;
    }

abbrev pub decreases-loop-line : goal.decreases-loop-line
decreases-loop-line g l = most_given l.supply - l.supply.given
