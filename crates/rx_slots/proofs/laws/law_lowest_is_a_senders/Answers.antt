use Rattle.rx_slots.proofs.Lowest.{some_senders}
use Rattle.rx_slots.proofs.laws.law_lowest_is_a_senders.Goals as goal

pub returns : goal.returns
returns c = some_senders
