use Rattle.sak_exchange.proofs.Stays.{beginnings-fall, begun-stays}
use Rattle.sak_exchange.proofs.laws.law_begun_epochs_rise.Goals as goal

pub returns-clause-fall : goal.returns-clause-fall
returns-clause-fall c = beginnings-fall

pub returns-clause-stay : goal.returns-clause-stay
returns-clause-stay c = begun-stays
