-- What other crates may cite of the proofs.
pub use Rattle.capture_packets.proofs.Framed.{Sees, sees, take-least}
pub use Rattle.capture_packets.proofs.Opens.{opened-refused}
pub use Rattle.capture_packets.proofs.Stepped.{step-cut}
pub use Rattle.capture_packets.proofs.Taken.{behind-same}
pub use Rattle.capture_packets.proofs.Told.{told-end, told-refused}
pub use Rattle.capture_packets.proofs.Unread.{unopened}
pub use Rattle.capture_packets.proofs.WholeFronts.{packets-more, with_more}
