use Rattle.group_safety.proofs.rollover.EventKinds.{kind}
use Rattle.group_safety.proofs.Members.{contains-in}
use Rattle.group_safety.proofs.moves.Installing.{fact-held}
use Rattle.group_safety.proofs.moves.Known.{kept-by}
use Rattle.group_safety.proofs.transmitting.law_an_installed_key_is_held.Goals as goal

pub returns : goal.returns
returns c = λ settings users old x r before step s id an epoch sak has.
    fact-held settings users x r (kind settings users x r step)
    (kept-by settings users old r before) s id an epoch sak (contains-in _ _ has)
