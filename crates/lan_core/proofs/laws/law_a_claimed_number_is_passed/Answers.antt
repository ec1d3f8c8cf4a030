use Rattle.lan_core.proofs.Fronts.{stays-passed}
use Rattle.lan_core.proofs.laws.law_a_claimed_number_is_passed.Goals as goal

pub returns : goal.returns
returns c = stays-passed
