use Rattle.group_safety.proofs.once.RunLaws.{known, run-once, run-claims_known}
use Rattle.group_safety.proofs.safety.law_once.Goals as goal

pub returns-clause-legal : goal.returns-clause-legal
returns-clause-legal c = λ settings users r legal fresh unforged.
    run-once settings users r (known settings users r legal.stepped unforged) fresh

pub returns-clause-stepped : goal.returns-clause-stepped
returns-clause-stepped c = λ settings users r stepped fresh unforged.
    run-once settings users r (known settings users r stepped unforged) fresh

pub returns-clause-known : goal.returns-clause-known
returns-clause-known c = λ settings users r claim stepped fresh unforged there.
    run-claims_known settings users r claim (known settings users r stepped unforged) fresh there
