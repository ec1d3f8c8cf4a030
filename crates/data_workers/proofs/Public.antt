-- What other crates may cite of the proofs.
pub use Rattle.data_workers.proofs.NextEntry.{all_from}
pub use Rattle.data_workers.proofs.ToldLogs.{log_counts, told_log, told_once}
