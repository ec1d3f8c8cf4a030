use Rattle.group_safety.proofs.rollover.EventKinds.{kind}
use Rattle.group_safety.proofs.moves.Moving.{on-follows}
use Rattle.group_safety.proofs.moves.Known.{known-by}
use Rattle.group_safety.proofs.transmitting.law_facts_move_what_transmits.Goals as goal

pub returns : goal.returns
returns c = λ settings users old new x r before after step s k carries.
    on-follows settings users x r s k (kind settings users x r step)
    (known-by settings users old new x r s before after) carries
