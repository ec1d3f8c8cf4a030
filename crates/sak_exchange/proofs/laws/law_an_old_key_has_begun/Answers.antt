use Rattle.sak_exchange.proofs.Stays.{old-begun, latest-alone-begins, none-begins-later}
use Rattle.sak_exchange.proofs.laws.law_an_old_key_has_begun.Goals as goal

pub returns-clause-old : goal.returns-clause-old
returns-clause-old c = old-begun

pub returns-clause-after : goal.returns-clause-after
returns-clause-after c = latest-alone-begins

pub returns-clause-latest : goal.returns-clause-latest
returns-clause-latest c = none-begins-later
