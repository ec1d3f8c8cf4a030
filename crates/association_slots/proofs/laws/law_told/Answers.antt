use Rattle.association_slots.proofs.Learning.{card_known}
use Rattle.association_slots.proofs.laws.law_told.Goals as goal

pub returns : goal.returns
returns _ c ws vs a = (a.told.noted, card_known c c.told_reads a.told.reads)
