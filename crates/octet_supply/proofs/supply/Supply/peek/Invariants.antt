use Rattle.std.proofs.Common.{◌≡◌, ◌≤◌, ◌-◌, ℕ, List, [], length}
use Rattle.octet_supply.specs.Asking.{Fewer}
use Rattle.octet_supply.specs.Supplying.{Stands, most_given}
use Rattle.octet_supply.proofs.Asking.{Had}
use Rattle.octet_supply.proofs.supply.Supply.peek.Given as goal

abbrev pub invariant-loop-self : goal.invariant-loop-self
invariant-loop-self g l =
    let left = g.S.Source.left in
    let faults = g.S.Source.faults in
    record {
      stands : (limit : ℕ) (text given : List ℕ) → Stands limit text given l.fn.self (left l.fn.source)
          → Stands limit text given l.self (left l.source);
      turned : Had g.S.Source.Gave (Fewer l.count) l.fn.self.octets l.fn.source [] l.self l.source;
      given : l.self.given ≡ l.fn.self.given;
      most : most_given l.self ≡ most_given l.fn.self;
      counts : faults l.fn.source ≤ faults l.source;
    }

abbrev pub decreases-loop-self : goal.decreases-loop-self
decreases-loop-self g l = l.count - length l.self.octets
