use Rattle.mka_station.proofs.Listed.{listed-live, listed-potential}
use Rattle.mka_station.proofs.laws.law_listed_was_heard.Goals as goal

pub returns-clause-live : goal.returns-clause-live
returns-clause-live c = listed-live

pub returns-clause-potential : goal.returns-clause-potential
returns-clause-potential c = listed-potential
