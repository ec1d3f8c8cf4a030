use Rattle.lan_core.proofs.Fronts.{front-stepped}
use Rattle.lan_core.proofs.laws.law_fronts_of_stepped_runs_are_stepped.Goals as goal

pub returns : goal.returns
returns c = front-stepped
