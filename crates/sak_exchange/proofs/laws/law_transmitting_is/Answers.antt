use Rattle.std.proofs.Common.{◌∙◌}
use Rattle.sak_exchange.proofs.Entries.{transmitting-is, current-begun, current-unbegun, current-none}
use Rattle.sak_exchange.proofs.laws.law_transmitting_is.Goals as goal

pub returns-clause-begun : goal.returns-clause-begun
returns-clause-begun c = λ base h l kept is begun. transmitting-is base h kept ∙ current-begun h l is begun

pub returns-clause-unbegun : goal.returns-clause-unbegun
returns-clause-unbegun c = λ base h l kept is unbegun. transmitting-is base h kept ∙ current-unbegun h l is unbegun

pub returns-clause-none : goal.returns-clause-none
returns-clause-none c = λ base h kept none. transmitting-is base h kept ∙ current-none base h kept none
