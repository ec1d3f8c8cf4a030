-- What other crates may cite of the proofs: what lines of one group tell, time behind one fact more, and how
-- reading ends for a caller.
pub use Rattle.transcript_reader.proofs.Course.{one-tells}
pub use Rattle.transcript_reader.proofs.Ticking.{own-more, ticks-more}
pub use Rattle.transcript_reader.proofs.Instances.{all-within, past-within, read-as, taken-as, by-end-as, ends-as, answers-as, unanswered, none-taken, not-begun}
pub use Rattle.transcript_reader.proofs.Turning.{turned-as}
