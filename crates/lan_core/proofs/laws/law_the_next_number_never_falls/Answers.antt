use Rattle.lan_core.proofs.Fronts.{never-falls}
use Rattle.lan_core.proofs.laws.law_the_next_number_never_falls.Goals as goal

pub returns : goal.returns
returns c = never-falls
