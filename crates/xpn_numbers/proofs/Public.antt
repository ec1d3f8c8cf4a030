-- What other crates may cite.
pub use Rattle.xpn_numbers.proofs.Keeping.{begins}
