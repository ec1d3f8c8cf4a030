use Rattle.lan_core.proofs.ExcusesStay.{step-legal}
use Rattle.lan_core.proofs.laws.law_a_step_keeps_a_run_legal.Goals as goal

pub returns : goal.returns
returns c = step-legal
