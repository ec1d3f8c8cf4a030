use Rattle.lan_core.proofs.EachInALife.{in-a-life}
use Rattle.lan_core.proofs.laws.law_each_station_is_in_a_life.Goals as goal

pub returns : goal.returns
returns c = in-a-life
