use Rattle.association_slots.proofs.Sixteen.{sixteen_told}
use Rattle.association_slots.proofs.laws.law_few_numbers_are_lost.Goals as goal

pub returns : goal.returns
returns _ c ok an epoch = sixteen_told c an epoch ok
