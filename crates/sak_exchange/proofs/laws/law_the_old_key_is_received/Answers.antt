use Rattle.sak_exchange.proofs.Stays.{old-stays}
use Rattle.sak_exchange.proofs.laws.law_the_old_key_is_received.Goals as goal

pub returns : goal.returns
returns c = old-stays
