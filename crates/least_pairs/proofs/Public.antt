-- What other crates may cite of the proofs: how the least pair and what was told first stand when one
-- number more is told, and what holds of verdicts.
pub use Rattle.least_pairs.proofs.Least.{some-same, nat_dec, old-pair, new-pair, later-is, found-stays, none-stays, broken-now, found-is, found-again, found-first, quiet, found-quiet, first-told, agreeing, KeepsFirsts, still}
pub use Rattle.least_pairs.proofs.Verdicts.{one-verdict, front-stays, repetition-in, repetition-out}
