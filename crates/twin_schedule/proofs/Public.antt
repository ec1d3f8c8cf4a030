-- What other crates may cite of the proofs: that a replay does lines one after the other, and what
-- was shown stays.
pub use Rattle.twin_schedule.proofs.Doing.{grows}
pub use Rattle.twin_schedule.proofs.EachLine.{each-append, does-none, does-more, does-early, one-does}
