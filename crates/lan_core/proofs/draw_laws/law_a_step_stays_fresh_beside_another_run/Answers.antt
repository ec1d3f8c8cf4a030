use Rattle.lan_core.proofs.FreshBeside.{fresh-beside, step-well}
use Rattle.lan_core.proofs.draw_laws.law_a_step_stays_fresh_beside_another_run.Goals as goal

pub returns-clause-fresh : goal.returns-clause-fresh
returns-clause-fresh c = fresh-beside

pub returns-clause-well : goal.returns-clause-well
returns-clause-well c = λ settings users x r other step well.
    (step-well settings users x r step, well)
