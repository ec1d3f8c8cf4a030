use Rattle.group_safety.proofs.rollover.Found.{run-hitless}
use Rattle.group_safety.proofs.hitless.law_hitless.Goals as goal

pub returns-clause-legal : goal.returns-clause-legal
returns-clause-legal c = λ settings users r legal fresh unforged.
    run-hitless settings users r legal.stepped unforged fresh

pub returns-clause-stepped : goal.returns-clause-stepped
returns-clause-stepped c = λ settings users r stepped fresh unforged.
    run-hitless settings users r stepped unforged fresh
