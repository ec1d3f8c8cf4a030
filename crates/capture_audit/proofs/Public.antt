-- What other crates may cite of the proofs: what holds of each member that is told.
pub use Rattle.capture_audit.proofs.UsesAlone.{each-member}
