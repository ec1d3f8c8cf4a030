use Rattle.group_safety.proofs.told.Missed.{bob_said, word, keeps, never-begins, not-steady}
use Rattle.group_safety.proofs.worked.law_missed_flag.Goals as goal

pub returns-clause-keeps : goal.returns-clause-keeps
returns-clause-keeps c = λ lag. (bob_said, word, keeps lag)

pub returns-clause-never : goal.returns-clause-never
returns-clause-never c = never-begins

pub returns-clause-unsteady : goal.returns-clause-unsteady
returns-clause-unsteady c = not-steady
