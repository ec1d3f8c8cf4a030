use Rattle.association_slots.proofs.SeatsKeep.{counted_low, counted_fits}
use Rattle.association_slots.proofs.Learning.{is_next}
use Rattle.association_slots.proofs.laws.law_counted_next.Goals as goal

pub returns : goal.returns
returns _ c ws vs a an epoch o = (counted_low c an epoch o.1, counted_fits c ws vs a an o.0, λ all_in. (is_next c ws vs a an epoch o).is_sum all_in)
