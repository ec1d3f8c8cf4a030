-- What other crates may cite of the proofs: how capturing ends before anything of a transcript is read.
pub use Rattle.transcript_capture.proofs.Ends.{not-captured}
