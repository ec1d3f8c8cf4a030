use Rattle.mka_station.proofs.Lasting.{elected-ticked, elected-heard}
use Rattle.mka_station.proofs.laws.law_elected_stays.Goals as goal

pub returns-clause-ticked : goal.returns-clause-ticked
returns-clause-ticked c = elected-ticked

pub returns-clause-heard : goal.returns-clause-heard
returns-clause-heard c = elected-heard
