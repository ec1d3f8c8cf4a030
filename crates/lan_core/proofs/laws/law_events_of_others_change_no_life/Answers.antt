use Rattle.lan_core.proofs.LivesUnchanged.{others-change-none}
use Rattle.lan_core.proofs.laws.law_events_of_others_change_no_life.Goals as goal

pub returns : goal.returns
returns c = others-change-none
