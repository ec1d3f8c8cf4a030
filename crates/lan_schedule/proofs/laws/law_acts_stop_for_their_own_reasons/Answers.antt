use Rattle.lan_schedule.proofs.Stopping.{never-broken}
use Rattle.lan_schedule.proofs.laws.law_acts_stop_for_their_own_reasons.Goals as goal

pub returns : goal.returns
returns c = never-broken
