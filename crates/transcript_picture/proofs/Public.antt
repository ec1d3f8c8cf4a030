-- What other crates may cite of the proofs: that a transcript was not read.
pub use Rattle.transcript_picture.proofs.Ending.{not-drawn}
