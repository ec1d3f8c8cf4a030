use Rattle.group_safety.proofs.rollover.EventKinds.{kind}
use Rattle.group_safety.proofs.moves.Growing.{few}
use Rattle.group_safety.proofs.transmitting.law_next_numbers_grow_by_claims.Goals as goal

pub returns : goal.returns
returns c = λ settings users x r step exact s epoch.
    few settings r s epoch users x.event x.facts (kind settings users x r step) exact
