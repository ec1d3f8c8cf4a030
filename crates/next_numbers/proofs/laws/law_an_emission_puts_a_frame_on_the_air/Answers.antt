use Rattle.next_numbers.proofs.Bounds.{air-longer, emit-longer}
use Rattle.next_numbers.proofs.laws.law_an_emission_puts_a_frame_on_the_air.Goals as goal

pub returns-clause-stays : goal.returns-clause-stays
returns-clause-stays c = air-longer

pub returns-clause-emits : goal.returns-clause-emits
returns-clause-emits c = emit-longer
