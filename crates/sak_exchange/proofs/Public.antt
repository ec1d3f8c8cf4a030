-- What other crates may cite of the proofs.
pub use Rattle.sak_exchange.proofs.AssociationNumbers.{other-an, same-an-equal, same-an-itself}
pub use Rattle.sak_exchange.proofs.Both.{are-two, beside-old, first-is}
pub use Rattle.sak_exchange.proofs.Cases.{by_option, by_test, not-true}
pub use Rattle.sak_exchange.proofs.Entries.{current-begun, current-none, current-unbegun, keys-began, keys-dropped, keys-installed, keys-ticked, transmitting-is}
pub use Rattle.sak_exchange.proofs.Epochs.{begun-upto, find-passes, latest-epoch, may-begin}
pub use Rattle.sak_exchange.proofs.Members.{same-equal, same-itself}
pub use Rattle.sak_exchange.proofs.Numbers.{identifiers-differ}
pub use Rattle.sak_exchange.proofs.Shape.{latest-none, latest-one, latest-two, none, not-ended, one, shape, two}
pub use Rattle.sak_exchange.proofs.Stays.{ago-begun, beginnings-fall, begun-stays, latest-stays, old-stays, retired-by, unbegun-fresh}
pub use Rattle.sak_exchange.proofs.Survival.{is-received, was-received}
pub use Rattle.sak_exchange.proofs.Unwrapping.{key-unwrapped, unwrapped-key}
