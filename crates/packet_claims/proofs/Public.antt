-- What other crates may cite of the proofs.
pub use Rattle.packet_claims.proofs.Lonely.{did_by, given_at, newest_pointed}
