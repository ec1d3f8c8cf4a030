use Rattle.std.proofs.Common.{◌≡◌, ◌+◌, ◌≤◌, ℕ, List, length}
use Rattle.std.specs.Prelude.{◌≢◌, All}
use Rattle.octet_supply.specs.Supplying.{IsInLine, Stands, most_given}
use Rattle.octet_supply.proofs.Asking.{Had}
use Rattle.octet_supply.proofs.Supplies.{HasLine}
use Rattle.octet_supply.proofs.supply.Supply.line.Given as goal

abbrev pub invariant-loop-octet : goal.invariant-loop-octet
invariant-loop-octet g l =
    let left = g.S.Source.left in
    let faults = g.S.Source.faults in
    record {
      taken : (limit : ℕ) (text given : List ℕ) → Stands limit text given l.fn.self (left l.fn.source)
          → HasLine limit text given l.most l.room l.fn.into.items l.into.items l.self (left l.source);
      turned : (out : List ℕ) × (length out + l.room ≡ l.most) × All (λ o. o ≢ 10) out
          × Had g.S.Source.Gave (IsInLine l.most) l.fn.self.octets l.fn.source out l.self l.source;
      given : l.fn.self.given ≤ l.self.given;
      most : most_given l.self ≡ most_given l.fn.self;
      counts : faults l.fn.source ≤ faults l.source;
    }

abbrev pub decreases-loop-octet : goal.decreases-loop-octet
decreases-loop-octet g l = l.room
