use Rattle.lan_core.proofs.EachPlaced.{run-named}
use Rattle.lan_core.proofs.fact_laws.law_stations_have_their_names.Goals as goal

pub returns : goal.returns
returns c = run-named
