use Rattle.group_safety.proofs.rollover.EventKinds.{kind}
use Rattle.group_safety.proofs.moves.Accounting.{account-onward}
use Rattle.group_safety.proofs.transmitting.law_an_account_goes_onward.Goals as goal

pub returns : goal.returns
returns c = λ settings users x r step s k j carries.
    account-onward settings users x r s k j (kind settings users x r step) carries
