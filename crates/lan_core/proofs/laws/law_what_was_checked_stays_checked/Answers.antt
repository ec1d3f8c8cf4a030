use Rattle.lan_core.proofs.ChecksStay.{checked-later, checks-stay}
use Rattle.lan_core.proofs.laws.law_what_was_checked_stays_checked.Goals as goal

pub returns-clause-later : goal.returns-clause-later
returns-clause-later c = checked-later

pub returns-clause-stays : goal.returns-clause-stays
returns-clause-stays c = checks-stay
