-- What other crates may cite of the proofs: that a transcript was not read, that no outlet failed where there
-- is none, and that a line is to be refused where its fact is.
pub use Rattle.transcript_check.proofs.Ending.{none-failed, not-judged}
pub use Rattle.transcript_check.specs.inside.Denying.{fact-denies}
