-- What other crates may cite of the proofs.
pub use Rattle.key_wrap.proofs.Octets.{IsOctets-steps}
pub use Rattle.key_wrap.proofs.OneKey.{Permutes, one_key}
