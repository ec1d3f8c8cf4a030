use Rattle.lan_core.proofs.EachPlaced.{all-placed, start-shows, step-placed}
use Rattle.lan_core.proofs.fact_laws.law_facts_have_their_stations.Goals as goal

pub returns : goal.returns
returns c = record { step = step-placed; all = all-placed; start = start-shows }
