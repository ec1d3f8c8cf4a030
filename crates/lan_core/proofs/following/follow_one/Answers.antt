use Rattle.std.proofs.Common.{subst, sym}
use Rattle.rx_slots.specs.Standing.{StandsFor as SlotsStandFor}
use Rattle.sak_exchange.specs.declared.change.Change.{Change}
use Rattle.lan_core.specs.Ledgers.{with_one}
use Rattle.lan_core.specs.inside.Following.{slot_of}
use Rattle.lan_core.proofs.following.follow_one.Goals as goal

pub returns-in-Installed : goal.returns-in-Installed
returns-in-Installed c = λ own window h s.
    subst (λ (x : Change). SlotsStandFor own window c.install.new.self (with_one (slot_of x) h)) (sym c.in-Installed.is) (c.install.ensures own window h s)

pub returns-in-Dropped : goal.returns-in-Dropped
returns-in-Dropped c = λ own window h s.
    subst (λ (x : Change). SlotsStandFor own window c.remove.new.self (with_one (slot_of x) h)) (sym c.in-Dropped.is) (c.remove.ensures own window h s)

pub returns-in-Retired : goal.returns-in-Retired
returns-in-Retired c = λ own window h s.
    subst (λ (x : Change). SlotsStandFor own window c.remove-in-Retired.new.self (with_one (slot_of x) h)) (sym c.in-Retired.is) (c.remove-in-Retired.ensures own window h s)
