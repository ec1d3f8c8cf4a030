use Rattle.group_safety.proofs.rollover.EventKinds.{kind}
use Rattle.group_safety.proofs.moves.Accounting.{account-on}
use Rattle.group_safety.proofs.transmitting.law_an_account_goes_on.Goals as goal

pub returns : goal.returns
returns c = λ settings users x r step exact s k j carries.
    account-on settings users x r s k j (kind settings users x r step) exact carries
