-- What other crates may cite of the proofs: the numbers of keys, what the same names have, and fronts of histories.
pub use Rattle.known_keys.proofs.Numbering.{in-within, no-fewer}
pub use Rattle.known_keys.proofs.Givens.{id-is, mi-is}
pub use Rattle.known_keys.proofs.KeysOfFronts.{front-keys, stays-broken}
