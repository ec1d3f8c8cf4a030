use Rattle.data_workers.proofs.ToldLogs.{log_counts}
use Rattle.data_workers.proofs.laws.law_a_log_counts_claims.Goals as goal

pub returns : goal.returns
returns _ v w sender log l epoch pn = log_counts v w sender log l epoch pn
