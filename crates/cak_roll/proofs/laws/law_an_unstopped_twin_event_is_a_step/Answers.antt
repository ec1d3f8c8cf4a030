use Rattle.cak_roll.proofs.UnstoppedTwins.{twin-step, twin-fresh}
use Rattle.cak_roll.proofs.laws.law_an_unstopped_twin_event_is_a_step.Goals as goal

pub returns-clause-step : goal.returns-clause-step
returns-clause-step c = twin-step

pub returns-clause-fresh : goal.returns-clause-fresh
returns-clause-fresh c = twin-fresh
