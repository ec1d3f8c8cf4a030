use Rattle.mka_station.proofs.Lasting.{uses-there, use-received}
use Rattle.mka_station.proofs.laws.law_uses_show_the_keys.Goals as goal

pub returns-clause-there : goal.returns-clause-there
returns-clause-there c = uses-there

pub returns-clause-received : goal.returns-clause-received
returns-clause-received c = use-received
