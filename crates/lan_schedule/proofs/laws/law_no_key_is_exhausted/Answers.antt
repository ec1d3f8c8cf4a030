use Rattle.lan_schedule.proofs.Telling.{not-exhausted}
use Rattle.lan_schedule.proofs.laws.law_no_key_is_exhausted.Goals as goal

pub returns : goal.returns
returns c = not-exhausted
