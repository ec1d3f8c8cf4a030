-- What other crates may cite.
pub use Rattle.gcm_core.proofs.KeyStream.{IsBlock-counter, IsBlock-increment, gctr-gctr}
pub use Rattle.gcm_core.proofs.Octets.{All-bytes, IsOctet, length-bytes}
