use Rattle.sak_exchange.proofs.NextAn.{next-is-free}
use Rattle.sak_exchange.proofs.laws.law_the_next_number_is_free.Goals as goal

pub returns : goal.returns
returns c = next-is-free
