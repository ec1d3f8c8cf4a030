use Rattle.std.proofs.Common.{sym, ◌∙◌}
use Rattle.association_slots.proofs.laws.law_raised_epochs_rise.Goals as goal

pub returns : goal.returns
returns _ c ws vs a = (a.settled.rise, λ an k e opened was. a.settled.found_gone an opened.0 was.0 was.1 (was.3 ∙ sym opened.1))
