use Rattle.lan_core.proofs.UnstoppedSteps.{is-step}
use Rattle.lan_core.proofs.laws.law_an_unstopped_event_is_a_step.Goals as goal

pub returns : goal.returns
returns c = is-step
