use Rattle.data_workers.proofs.ToldLogs.{told_log}
use Rattle.data_workers.proofs.laws.law_a_told_log.Goals as goal

pub returns : goal.returns
returns _ v w sender log l c learned = told_log sender w c learned v log l
