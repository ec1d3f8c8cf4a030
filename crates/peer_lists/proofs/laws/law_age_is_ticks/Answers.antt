use Rattle.peer_lists.proofs.EveryHistory.{age-is-ticks}
use Rattle.peer_lists.proofs.laws.law_age_is_ticks.Goals as goal

pub returns : goal.returns
returns c = age-is-ticks
