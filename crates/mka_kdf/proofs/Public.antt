-- What other crates may cite of the proofs.
pub use Rattle.mka_kdf.proofs.Lengths.{derived-16, derived-32}
