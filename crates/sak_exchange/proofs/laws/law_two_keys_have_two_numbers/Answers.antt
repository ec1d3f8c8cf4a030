use Rattle.sak_exchange.proofs.Stays.{ans-differ}
use Rattle.sak_exchange.proofs.laws.law_two_keys_have_two_numbers.Goals as goal

pub returns : goal.returns
returns c = ans-differ
