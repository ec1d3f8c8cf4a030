use Rattle.twin_schedule.proofs.Stopping.{never-broken, never-forged}
use Rattle.twin_schedule.proofs.laws.law_acts_stop_for_their_own_reasons.Goals as goal

pub returns-clause-own : goal.returns-clause-own
returns-clause-own c = never-broken

pub returns-clause-unforged : goal.returns-clause-unforged
returns-clause-unforged c = never-forged
