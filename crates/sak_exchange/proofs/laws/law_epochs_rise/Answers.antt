use Rattle.sak_exchange.proofs.Numbers.{epochs-fall}
use Rattle.sak_exchange.proofs.laws.law_epochs_rise.Goals as goal

pub returns : goal.returns
returns c = epochs-fall
