use Rattle.clean_audits.proofs.GivenKeys.{installed-given, law-claimed}
use Rattle.clean_audits.proofs.given.law_a_key_is_given_before_it_is_used.Goals as goal

pub returns-clause-installed : goal.returns-clause-installed
returns-clause-installed c = λ settings users r i stepped fresh unforged there.
    installed-given settings users r i stepped fresh unforged there

pub returns-clause-claimed : goal.returns-clause-claimed
returns-clause-claimed c = λ settings users later front s user pn an epoch stepped fresh unforged.
    law-claimed settings users later front s user pn an epoch stepped fresh unforged
