use Rattle.lan_core.proofs.ExcusesStay.{stays-excused}
use Rattle.lan_core.proofs.laws.law_an_excused_run_stays_excused.Goals as goal

pub returns : goal.returns
returns c = stays-excused
