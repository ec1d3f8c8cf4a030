use Rattle.next_numbers.proofs.Turns.{stays-in-turn}
use Rattle.next_numbers.proofs.laws.law_emissions_stay_in_turn.Goals as goal

pub returns : goal.returns
returns c = stays-in-turn
