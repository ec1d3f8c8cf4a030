use Rattle.lan_core.proofs.Fronts.{stays-kept}
use Rattle.lan_core.proofs.laws.law_a_shown_number_is_kept.Goals as goal

pub returns : goal.returns
returns c = stays-kept
