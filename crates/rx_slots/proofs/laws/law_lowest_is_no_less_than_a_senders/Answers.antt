use Rattle.rx_slots.proofs.Lowest.{no_less}
use Rattle.rx_slots.proofs.laws.law_lowest_is_no_less_than_a_senders.Goals as goal

pub returns : goal.returns
returns c = no_less
