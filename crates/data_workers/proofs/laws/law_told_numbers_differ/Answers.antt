use Rattle.data_workers.proofs.ToldLogs.{told_once}
use Rattle.data_workers.proofs.laws.law_told_numbers_differ.Goals as goal

pub returns : goal.returns
returns _ v w sender log l c learned epoch pn = told_once v w sender log l c learned epoch pn
