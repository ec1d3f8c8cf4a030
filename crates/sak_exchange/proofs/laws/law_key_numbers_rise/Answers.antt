use Rattle.sak_exchange.proofs.Numbers.{numbers-fall, identifiers-differ}
use Rattle.sak_exchange.proofs.laws.law_key_numbers_rise.Goals as goal

pub returns-clause-numbers : goal.returns-clause-numbers
returns-clause-numbers c = numbers-fall

pub returns-clause-identifiers : goal.returns-clause-identifiers
returns-clause-identifiers c = identifiers-differ
