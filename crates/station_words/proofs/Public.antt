-- What other crates may cite of the proofs.
pub use Rattle.station_words.proofs.KeepingUp.{told-more}
pub use Rattle.station_words.proofs.Stations.{cards-set, get-set, looked-none}
pub use Rattle.station_words.proofs.Onward.{ahead-carried, onward-carried}
pub use Rattle.station_words.proofs.Out.{out-joined, out-looked, out-none, out-seated, out-started, out-then}
pub use Rattle.station_words.proofs.Out.{set-false, set-true}
