use Rattle.lan_core.proofs.UnstoppedSteps.{legal, fresh, unforged}
use Rattle.lan_core.proofs.laws.law_an_unstopped_event_keeps_a_run_sound.Goals as goal

pub returns-clause-legal : goal.returns-clause-legal
returns-clause-legal c = legal

pub returns-clause-fresh : goal.returns-clause-fresh
returns-clause-fresh c = fresh

pub returns-clause-unforged : goal.returns-clause-unforged
returns-clause-unforged c = unforged
