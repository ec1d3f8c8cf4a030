use Rattle.std.proofs.Common.{◌≡◌, ◌+◌, ◌≤◌, [], ℕ, List, length}
use Rattle.octet_supply.specs.Asking.{Fewer}
use Rattle.octet_supply.specs.Supplying.{Stands}
use Rattle.octet_supply.proofs.Asking.{Had}
use Rattle.octet_supply.proofs.Supplies.{HasTaken}
use Rattle.octet_supply.proofs.supply.Supply.pass.Given as goal

abbrev pub invariant-loop-wanted : goal.invariant-loop-wanted
invariant-loop-wanted g l =
    let left = g.S.Source.left in
    let faults = g.S.Source.faults in
    record {
      passed : (limit : ℕ) (text given : List ℕ) → Stands limit text given l.fn.self (left l.fn.source)
          → (now : List ℕ) × HasTaken limit text given l.count l.wanted [] now l.self (left l.source);
      turned : (out : List ℕ) × (length out + l.wanted ≡ l.count)
          × Had g.S.Source.Gave (Fewer l.count) l.fn.self.octets l.fn.source out l.self l.source;
      more : l.fn.self.given ≤ l.self.given;
      counts : faults l.fn.source ≤ faults l.source;
    }

abbrev pub decreases-loop-wanted : goal.decreases-loop-wanted
decreases-loop-wanted g l = l.wanted
