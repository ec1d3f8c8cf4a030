-- What other crates may cite of the proofs.
pub use Rattle.cak_roll.proofs.JoinedRun.{started_in, stations-then}
pub use Rattle.cak_roll.proofs.Lone.{lone-run, lone-then}
pub use Rattle.cak_roll.proofs.Ready.{few-stations}
pub use Rattle.cak_roll.proofs.Twins.{twin-stepped}
pub use Rattle.cak_roll.proofs.UnstoppedTwins.{twin-step, twin-fresh}
