use Rattle.lan_core.proofs.Fronts.{front-unforged}
use Rattle.lan_core.proofs.laws.law_fronts_of_unforged_runs_are_unforged.Goals as goal

pub returns : goal.returns
returns c = front-unforged
