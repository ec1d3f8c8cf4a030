use Rattle.lan_core.proofs.Fronts.{front-fresh}
use Rattle.lan_core.proofs.laws.law_fronts_of_fresh_runs_are_fresh.Goals as goal

pub returns : goal.returns
returns c = front-fresh
