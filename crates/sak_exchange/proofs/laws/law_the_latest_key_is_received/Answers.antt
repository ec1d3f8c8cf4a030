use Rattle.sak_exchange.proofs.Stays.{latest-stays}
use Rattle.sak_exchange.proofs.Survival.{was-received}
use Rattle.sak_exchange.proofs.laws.law_the_latest_key_is_received.Goals as goal

pub returns-clause-latest : goal.returns-clause-latest
returns-clause-latest c = latest-stays

pub returns-clause-nothing_else : goal.returns-clause-nothing_else
returns-clause-nothing_else c = was-received
