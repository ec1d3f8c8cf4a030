use Rattle.sak_exchange.proofs.Survival.{is-received, has-received}
use Rattle.sak_exchange.proofs.laws.law_received_is.Goals as goal

pub returns : goal.returns
returns c = λ h k. (is-received h k, has-received h k)
