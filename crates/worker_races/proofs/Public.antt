-- What other crates may cite of the proofs.
pub use Rattle.worker_races.proofs.Hands.{first-done, others-done}
pub use Rattle.worker_races.proofs.CardsBehind.{carded-kept, looked-kept, seated-kept}
-- An event of control starts no station, and tells of no claim.
pub use Rattle.worker_races.proofs.weaving.Agree.{starts-none}
pub use Rattle.worker_races.proofs.weaving.Thrift.{adds-none}
-- Logs by their places, and the claims of a part that are left for each behind the next event.
pub use Rattle.worker_races.proofs.weaving.LogsLeft.{Left, claims_for, next-nth, nth-left, nth-logs, told-front}
-- A race that is worked by hand, and what control performs in it.
pub use Rattle.worker_races.proofs.BesideExample.{race}
pub use Rattle.worker_races.proofs.weaving.RaceExample.{legal-after, newest}
