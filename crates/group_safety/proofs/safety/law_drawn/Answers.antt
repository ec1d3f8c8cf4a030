use Rattle.group_safety.proofs.once.RunLaws.{known, run-drawn}
use Rattle.group_safety.proofs.safety.law_drawn.Goals as goal

pub returns-clause-legal : goal.returns-clause-legal
returns-clause-legal c = λ settings users r legal fresh unforged.
    run-drawn settings users r (known settings users r legal.stepped unforged) fresh

pub returns-clause-stepped : goal.returns-clause-stepped
returns-clause-stepped c = λ settings users r stepped fresh unforged.
    run-drawn settings users r (known settings users r stepped unforged) fresh
