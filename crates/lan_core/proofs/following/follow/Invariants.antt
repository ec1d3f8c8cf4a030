use Rattle.std.proofs.Common.{ℕ, List, take}
use Rattle.lan_base.specs.declared.address.Sci.{Sci}
use Rattle.rx_slots.specs.Histories.{Receiving}
use Rattle.rx_slots.specs.Standing.{StandsFor as SlotsStandFor}
use Rattle.lan_core.specs.inside.Following.{followed}
use Rattle.lan_core.proofs.following.follow.Given as goal

abbrev pub invariant-loop-change : goal.invariant-loop-change
invariant-loop-change l = (own : Sci) (window : ℕ) (h : List Receiving) → SlotsStandFor own window l.fn.slots h →
    SlotsStandFor own window l.slots (followed (take l.change-index l.changes) h)
