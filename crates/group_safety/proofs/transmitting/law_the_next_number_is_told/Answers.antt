use Rattle.group_safety.proofs.moves.Accounting.{next-told}
use Rattle.group_safety.proofs.transmitting.law_the_next_number_is_told.Goals as goal

pub returns : goal.returns
returns c = λ settings r s k carries. next-told settings s r k carries
