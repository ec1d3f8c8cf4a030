-- What other crates may cite of the proofs.
pub use Rattle.gcm_frames.proofs.Opening.{Encrypts, encrypts, length-gcm_text}
pub use Rattle.gcm_frames.proofs.Parts.{take_front}
pub use Rattle.gcm_frames.proofs.Reopened.{length-gcm_tag, reopened}
pub use Rattle.gcm_frames.proofs.Reread.{reread}
pub use Rattle.gcm_frames.proofs.Within.{implied_within}
