use Rattle.mka_station.proofs.Flags.{heard-alike}
use Rattle.mka_station.proofs.laws.law_no_flag_is_heard.Goals as goal

pub returns : goal.returns
returns c = heard-alike
