use Rattle.rx_slots.proofs.Replays.{never_again}
use Rattle.rx_slots.proofs.laws.law_nothing_is_accepted_twice.Goals as goal

pub returns : goal.returns
returns c = never_again
